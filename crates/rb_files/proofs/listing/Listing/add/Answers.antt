use Rattle.std.proofs.Common.{◌≡◌, ◌∙◌, ℕ, false, List, [], ◌∷◌, ◌++◌, String, Vec, ap, map, string_bytes, sym, arith}
use Rattle.std.proofs.lemmas.Grind.{common_steps}
use Rattle.std.proofs.lemmas.List.{append-nil, map-append}
use Rattle.std.specs.declared.alloc.Global.{Global}
use Rattle.rb_files.specs.Names.{is_hidden, strange_bytes}
use Rattle.rb_files.proofs.NameLaws.{strange_kept, text_kept}
use Rattle.rb_files.proofs.listing.Listing.add.Goals as goal

pub returns-in_ok-push-in-Ok-clause-names : goal.returns-in_ok-push-in-Ok-clause-names
returns-in_ok-push-in-Ok-clause-names c =
    let name = c.args.name.now in
    let old = c.args.self.now.names.items in
    let text : String Global = c.in_ok-from_str-in-Ok.field-0 in
    let seen : is_hidden name ≡ false = sym c.is_hidden.ensures ∙ c.if-is_hidden.false in
    let more : c.push.new.self.items ≡ old ++ text ∷ [] = grind (arith, common_steps) in
    let bytes : string_bytes text ≡ name = c.in_ok-from_str-in-Ok.ensures.ok ∙ c.in-Ok.ensures.cases.0 in
    ap (map string_bytes) more
    ∙ map-append string_bytes old (text ∷ [])
    ∙ ap (λ (b : List ℕ). map string_bytes old ++ b ∷ []) bytes
    ∙ sym (ap (λ (ns : List (List ℕ)). map string_bytes old ++ ns) (text_kept name seen c.in-Ok.ensures.cases.1).0)

pub returns-in_ok-push-in-Ok-clause-strange : goal.returns-in_ok-push-in-Ok-clause-strange
returns-in_ok-push-in-Ok-clause-strange c =
    let name = c.args.name.now in
    let old = strange_bytes c.args.self.now.strange.items in
    let seen : is_hidden name ≡ false = sym c.is_hidden.ensures ∙ c.if-is_hidden.false in
    sym (append-nil old) ∙ sym (ap (λ (ns : List (List ℕ)). old ++ ns) (text_kept name seen c.in-Ok.ensures.cases.1).1)

pub returns-in_ok-push-in-Err-clause-names : goal.returns-in_ok-push-in-Err-clause-names
returns-in_ok-push-in-Err-clause-names c =
    let name = c.args.name.now in
    let old = map string_bytes c.args.self.now.names.items in
    let seen : is_hidden name ≡ false = sym c.is_hidden.ensures ∙ c.if-is_hidden.false in
    sym (append-nil old) ∙ sym (ap (λ (ns : List (List ℕ)). old ++ ns) (strange_kept name seen c.in-Err.ensures.cases.0).0)

pub returns-in_ok-push-in-Err-clause-strange : goal.returns-in_ok-push-in-Err-clause-strange
returns-in_ok-push-in-Err-clause-strange c =
    let name = c.args.name.now in
    let old = c.args.self.now.strange.items in
    let bytes : Vec ℕ Global = c.in_ok-from_slice-in-Err.field-0 in
    let seen : is_hidden name ≡ false = sym c.is_hidden.ensures ∙ c.if-is_hidden.false in
    let more : c.push-in-Err.new.self.items ≡ old ++ bytes ∷ [] = grind (arith, common_steps) in
    ap strange_bytes more
    ∙ map-append (λ (v : Vec ℕ Global). v.items) old (bytes ∷ [])
    ∙ ap (λ (b : List ℕ). strange_bytes old ++ b ∷ []) c.in_ok-from_slice-in-Err.ensures.items
    ∙ sym (ap (λ (ns : List (List ℕ)). strange_bytes old ++ ns) (strange_kept name seen c.in-Err.ensures.cases.0).1)
