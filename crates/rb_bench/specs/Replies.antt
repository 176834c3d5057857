-- The texts of replies. (This project's.)
use Rattle.std.specs.Prelude.{ℕ, List, [], codes}
use Rattle.rb_script.specs.Script.{text}
use Rattle.rb_replay.specs.Run.{output_at}
use Rattle.rb_replay.specs.Report.{report, rewritten}
use Rattle.rb_replay.specs.Holding.{Holding}
use Rattle.rb_bench.specs.declared.reply.Reply.{Reply}
use Rattle.rb_bench.specs.declared.reply.Reply.TheVariants as replies
use Rattle.rb_bench.specs.Names.{edit_name}
use Rattle.rb_bench.specs.Responses.{fault_text, refused, done, shown}

abbrev pub reply_text : Holding → Reply → List ℕ
reply_text h replies.Nothing = []
reply_text h replies.BadCommand = refused (codes "BadCommand")
reply_text h (replies.BadBlock fault) = refused (fault_text fault)
reply_text h (replies.BadEdit fault) = refused (edit_name fault)
reply_text h replies.LineTooLong = refused (codes "LineTooLong")
reply_text h replies.CutOff = refused (codes "CutOff")
reply_text h (replies.Done changed) = done changed
reply_text h (replies.Output place) = shown (output_at h.script place)
reply_text h replies.Report = report h.script
reply_text h replies.Script = text h.script
reply_text h replies.Rewrite = rewritten h.script
