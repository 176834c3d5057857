-- What a reader of lines has taken, step by step.
use Rattle.std.proofs.Common.{◌≡◌, ℕ, List, [], ◌++◌, Option, inl, refl}
use Rattle.std.proofs.KnownBytes.{Consumes-nil, Consumes-trans}
use Rattle.rb_text.specs.declared.line_reader.LineReader.{LineReader}
use Rattle.rb_text.specs.Taken.{TakesWhole}
use Rattle.rb_text.proofs.CutLaws.{whole_both}

pub takes_none : (lines : LineReader) (left : Option (List ℕ)) → TakesWhole lines lines left left
takes_none lines left = λ going. record { going = going; bytes = []; are_whole = inl refl; taken = Consumes-nil _ }

-- one step after another
pub takes_then : (x y z : LineReader) (a b c : Option (List ℕ)) → TakesWhole x y a b → TakesWhole y z b c → TakesWhole x z a c
takes_then x y z a b c first second = λ going.
    let later = second going in
    let before = first later.going in record {
      going = before.going;
      bytes = before.bytes ++ later.bytes;
      are_whole = whole_both before.bytes later.bytes before.are_whole later.are_whole;
      taken = Consumes-trans _ _ _ before.bytes later.bytes before.taken later.taken;
    }
