-- The line at which the run of a text stopped.
use Rattle.std.proofs.Common.{◌≡◌, ◌∙◌, ◌<◌, ◌≤◌, ◌==◌, Bor, true, ℕ, List, Option, None, Some, Ok, Err, ap, get_or, length, refl, sym}
use Rattle.std.specs.Prelude.{IfSome, MatchOption, Result, option_map, slice_get}
use Rattle.std.specs.List.{HoldsAt, list_any}
use Rattle.std.proofs.lemmas.Option.{get_or_from_slice_get, slice_get_past, slice_get_read, slice_get_within}
use Rattle.std.proofs.lemmas.List.Folds.{list_any_at}
use Rattle.std.proofs.lemmas.Bool.Decides.{Decides-eqb}
use Rattle.rb_script.specs.declared.fault.ScriptFault.{ScriptFault}
use Rattle.rb_script.specs.Lines.{lines}
use Rattle.rb_script.specs.Script.{PlainScript}
use Rattle.rb_script.specs.Reads.{Reads}
use Rattle.rb_script.specs.Reading.{read_of}
use Rattle.rb_script.specs.HeadLines.{AreHeadLines}
use Rattle.rb_script.proofs.ScriptLaws.{read_complete}
use Rattle.rb_editor.specs.Heads.{heads_of}
use Rattle.rb_lsp.specs.declared.server.stop.Stop.{Stop}
use Rattle.rb_editor.specs.Stops.{has_head, head_in, head_line, is_head, is_line, may_stop}
use Rattle.rb_editor.proofs.HeadLaws.{heads_are}

pub got_at : (o : Option (Bor ℕ)) (xs : List ℕ) (i : ℕ) → IfSome o (λ x. x.now ≡ get_or xs i x.now) → MatchOption o (length xs ≤ i) (λ x. (i < length xs) × HoldsAt (λ y. x.now ≡ y) xs i) → option_map (λ x. x.now) o ≡ slice_get xs i
got_at (Some x) xs i same there = sym (slice_get_read xs (length xs) i x.now refl there.0 same)
got_at None xs i same past = sym (slice_get_past xs i past)

pub head_of_read : (text : List ℕ) (s : PlainScript) (heads : List ℕ) (index : ℕ) (found : Option ℕ) → Reads text s → AreHeadLines 1 (lines text) s.blocks heads → found ≡ slice_get heads index
    → found ≡ head_line text index
head_of_read text s heads index found reads are is =
    is ∙ ap (λ (ns : List ℕ). slice_get ns index) (heads_are text s heads reads are) ∙ ap (head_in text index) (sym (read_complete text s reads))

pub head_of_none : (text : List ℕ) (fault : ScriptFault) (index : ℕ) → read_of text ≡ Err fault → None ≡ head_line text index
head_of_none text fault index is = ap (head_in text index) (sym is)

-- ---- a real place

any_got : (xs : List ℕ) (i x : ℕ) → slice_get xs i ≡ Some x → list_any (λ n. n == x) xs ≡ true
any_got xs i x is = list_any_at (λ n. n == x) xs i x (slice_get_within xs i x is) ((Decides-eqb (get_or xs i x) x).1 (get_or_from_slice_get xs i x x is))

head_read : (text : List ℕ) (read : Result PlainScript ScriptFault) (index line : ℕ) → head_in text index read ≡ Some line → has_head text read line ≡ true
head_read text (Err fault) index line is = absurd cc
head_read text (Ok s) index line is = any_got (heads_of text s) index line is

pub may_stop_at : (text : List ℕ) (index : ℕ) (stop : Stop) → head_line text index ≡ Some stop.line → may_stop text stop ≡ true
may_stop_at text index stop is = head_read text (read_of text) index stop.line is

line_is : (found : Option ℕ) (line : ℕ) → is_line found line ≡ true → found ≡ Some line
line_is None line is = absurd cc
line_is (Some n) line is = ap (λ (m : ℕ). Some m) ((Decides-eqb n line).0 is)

pub may_stop_of : (text : List ℕ) (index : ℕ) (stop : Stop) → is_head text index stop.line ≡ true → may_stop text stop ≡ true
may_stop_of text index stop is = may_stop_at text index stop (line_is (head_line text index) stop.line is)

pub head_is : (text : List ℕ) (index line : ℕ) → head_line text index ≡ Some line → is_head text index line ≡ true
head_is text index line is = ap (λ (o : Option ℕ). is_line o line) is ∙ (Decides-eqb line line).1 refl
