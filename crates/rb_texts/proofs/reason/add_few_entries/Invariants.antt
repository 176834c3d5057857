-- The entries so far joined the line, and the text of those that are left makes it whole.
use Rattle.std.proofs.Common.{◌≡◌, ◌++◌, ◌-◌, drop}
use Rattle.rb_texts.specs.Reasons.{few_entries_text}
use Rattle.rb_texts.specs.declared.reason.TheConstants.{MAX_ENTRIES}
use Rattle.rb_texts.proofs.reason.add_few_entries.Given as goal

abbrev pub invariant-loop-k : goal.invariant-loop-k
invariant-loop-k l =
    l.line ++ few_entries_text (MAX_ENTRIES - l.k) l.separator l.last (drop l.k l.entries)
    ≡ l.initial.line ++ few_entries_text MAX_ENTRIES l.before l.last l.entries
