-- What of a log is applied: its content is that of a spot of the tree (Applied), and so nodes that have applied the same entries have the same content
-- (Ongaro's thesis, section 3.6.3). Nothing here is about nodes.
use Rattle.std.proofs.Common.{◌≡◌, ℕ, ◌+◌, List, ◌++◌, Ok, sym, ap, subst, ◌∙◌, arith}
use Rattle.rb_raftlog.specs.declared.entry.Entry.{Entry}
use Rattle.rb_raftlog.specs.Log.{LogValue, entry_at, term_at}
use Rattle.rb_laws.specs.Choices.{bytes_of}
use Rattle.rb_laws.proofs.Links.{Link, link, Extends, IsLinked}
use Rattle.rb_laws.proofs.Spots.{Spot, spot, site, under, IsTree}
use Rattle.rb_laws.proofs.Applied.{Applied, applied_with, IsMade, up_made, still_made, one_made}

-- a content is that of a spot
pub record IsContentAt (ls : List Link) (root : Spot) (start : Applied) (x : Spot) (content : List ℕ) : Type 0 where
  pub made : Applied
  pub is : IsMade ls root start x made
  pub content_is : made.content ≡ content

pub still_content : (old new : List Link) (root : Spot) (start : Applied) (x : Spot) (content : List ℕ) → Extends old new → IsContentAt old root start x content → IsContentAt new root start x content
still_content old new root start x content more c = record { made = c.made; is = still_made old new root start x c.made more c.is; content_is = c.content_is }

pub one_content : (root : Spot) (ls : List Link) (start : Applied) (x : Spot) (a b : List ℕ) → IsTree root ls → IsContentAt ls root start x a → IsContentAt ls root start x b → a ≡ b
one_content root ls start x a b tree h k = sym h.content_is ∙ ap (λ (s : Applied). s.content) (one_made root ls start x h.made k.made tree h.is k.is) ∙ k.content_is

-- ---- a log

-- what is applied of a log is the content
pub record IsFilled (ls : List Link) (root : Spot) (start : Applied) (v : LogValue) (applied : ℕ) (content : List ℕ) : Type 0 where
  pub term : ℕ
  pub held : term_at v applied ≡ Ok term
  pub is : IsContentAt ls root start (spot applied term) content

pub still_filled : (old new : List Link) (root : Spot) (start : Applied) (v : LogValue) (applied : ℕ) (content : List ℕ) → Extends old new → IsFilled old root start v applied content → IsFilled new root start v applied content
still_filled old new root start v applied content more f = record { term = f.term; held = f.held; is = still_content old new root start (spot applied f.term) content more f.is }

-- of another log with the same term there
pub filled_of : (ls : List Link) (root : Spot) (start : Applied) (v w : LogValue) (applied : ℕ) (content : List ℕ) → term_at w applied ≡ term_at v applied → IsFilled ls root start v applied content → IsFilled ls root start w applied content
filled_of ls root start v w applied content same f = record { term = f.term; held = same ∙ f.held; is = f.is }

-- the next entry brings its bytes
pub next_filled : (ls : List Link) (root : Spot) (start : Applied) (v : LogValue) (applied i : ℕ) (content : List ℕ) (e : Entry) → i ≡ applied + 1 → IsLinked ls v → entry_at v i ≡ Ok e → term_at v i ≡ Ok e.term → IsFilled ls root start v applied content
    → IsFilled ls root start v i (content ++ bytes_of e.body)
next_filled ls root start v applied i content e next linked at held f =
    let l = linked applied e f.term (ap (entry_at v) (sym next) ∙ at) f.held in
    let x : Link = link (applied + 1) e f.term l.0 in
    let here : under x ≡ spot applied f.term = ap (λ (j : ℕ). spot j f.term) (omega arith) in
    let made = applied_with f.is.made e.body in
    let up : IsMade ls root start (site x) made = up_made ls root start x f.is.made l.1 (subst (λ (y : Spot). IsMade ls root start y f.is.made) (sym here) f.is.is) in
    record {
      term = e.term;
      held = held;
      is = record {
        made = made;
        is = subst (λ (j : ℕ). IsMade ls root start (spot j e.term) made) (sym next) up;
        content_is = ap (λ (bytes : List ℕ). bytes ++ bytes_of e.body) f.is.content_is;
      };
    }
