-- What clap reads of a command, by the command's fields.
use Rattle.std.proofs.Common.{◌≡◌, ap}
use Rattle.clap.specs.Words.{app_of}
use Rattle.clap.specs.Simple.{app_of_fields}
use Rattle.clap.specs.declared.builder.command.Command.{Command}
use Rattle.clap.specs.declared.builder.command.Command.TheViews.{out-Command}
use Rattle.clap.specs.declared.builder.command.Command.TheOpen.{Command-F}

pub app_of-fields : (a : Command) (f : Command-F Command) → out-Command a ≡ f → app_of a ≡ app_of_fields f
app_of-fields a f made = ap app_of_fields made

pub has_globals-fields : (a : Command) (f : Command-F Command) → out-Command a ≡ f → (out-Command a).has_globals ≡ f.has_globals
has_globals-fields a f made = ap (λ (g : Command-F Command). g.has_globals) made
