use Rattle.std.proofs.Common.{None, lit<}
use Rattle.std.proofs.lemmas.Str.Pattern.{strip_suffix_char}
use Rattle.rb_files.proofs.IgnoredLaws.{stays_whole}
use Rattle.rb_files.proofs.ignored.without_slash.Goals as goal

pub returns-in-None : goal.returns-in-None
returns-in-None c = stays_whole 47 c.args.name.now (strip_suffix_char 47 c.args.name.now None c.in-None.ensures.cases (lit< tt))
