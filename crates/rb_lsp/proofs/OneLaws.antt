-- Bytes have one conversation.
use Rattle.std.proofs.Common.{◌≡◌, ◌≢◌, ℕ, ◌≤◌, ◌⊎◌, inl, inr, true, List, [], ◌++◌, Option, Some, None, length, refl, ap, sym, subst, ◌∙◌, arith, append_assoc, append-nil, length-append}
use Rattle.httparse.specs.Grammar.{LineEnd, crlf, lf, print_end}
use Rattle.serde_json.specs.Read.{read}
use Rattle.rb_lsp.specs.Messages.{IsMessage, HasNoMessage, NeverHasMessage, frame}
use Rattle.rb_lsp.specs.Said.{Said, said}
use Rattle.rb_lsp.proofs.MessageLaws.{one_message}
use Rattle.rb_lsp.proofs.FrameLaws.{framed_is_message}
use Rattle.rb_lsp.specs.declared.server.phase.ExitStatus.{ExitStatus}
use Rattle.rb_lsp.specs.declared.server.phase.ExitStatus.TheVariants.{Closed}
use Rattle.rb_lsp.specs.declared.server.reach.Reach.{Reach}
use Rattle.rb_lsp.specs.declared.server.reach.Reach.TheVariants.{Whole}
use Rattle.rb_lsp.specs.Meanings.{Meaning}
use Rattle.rb_lsp.specs.Replies.{PlainServer, On, Over}
use Rattle.rb_lsp.specs.Laws.{is_left}
use Rattle.rb_lsp.specs.Talk.{Hears, told, goes, Begins, stands, goes_on, Ends, exits, closes, cuts_off, strays, Talks}

-- ---- a message

end_is_some : (last : LineEnd) → 1 ≤ length (print_end last)
end_is_some crlf = omega arith
end_is_some lf = omega arith

none_in_none : HasNoMessage []
none_in_none body rest m =
    let lens = simp length-append at (ap length m.section.1) in
    omega (arith, lens, end_is_some m.last)

none_now : (all : List ℕ) → NeverHasMessage all → HasNoMessage all
none_now all never = subst HasNoMessage (append-nil all) (never [])

hears_one : (body : List ℕ) (a b : Option Said) → Hears body a → Hears body b → a ≡ b
hears_one body None None h g = refl
hears_one body None (Some b) h g =
    let none : read body ≡ None = h g.1 in
    let some : read body ≡ Some g.0 = g.2 in
    cc
hears_one body (Some a) None h g =
    let none : read body ≡ None = g h.1 in
    let some : read body ≡ Some h.0 = h.2 in
    cc
hears_one body (Some a) (Some b) h g =
    let both : Some h.0 ≡ Some g.0 = sym h.2 ∙ g.2 in
    let same : h.0 ≡ g.0 = cc in
    ap Some (h.3 ∙ ap said same ∙ sym g.3)

heard_one : (all b c r q : List ℕ) (g h : Option Said) → IsMessage all b r → IsMessage all c q → Hears b g → Hears c h → (g ≡ h) × (r ≡ q)
heard_one all b c r q g h m n x y =
    let same = one_message all b c r q m n in
    (hears_one b g h x (subst (λ (l : List ℕ). Hears l h) (sym same.0) y), same.1)

-- ---- the end

pub record Exits (meaning : Meaning) (server : PlainServer) (all : List ℕ) (status : ExitStatus) (text : List ℕ) : Type 0 where
  pub body : List ℕ
  pub rest : List ℕ
  pub heard : Option Said
  pub message : IsMessage all body rest
  pub hears : Hears body heard
  pub over : goes server heard ≡ Over status
  pub text_is : text ≡ told meaning Whole server heard

-- nothing is left, or bytes are with which no message begins
pub record IsLeft (all : List ℕ) (status : ExitStatus) (text : List ℕ) : Type 0 where
  pub none : HasNoMessage all
  pub text_is : text ≡ []
  pub status_is : ((all ≡ []) × (status ≡ Closed)) ⊎ ((all ≢ []) × (is_left status ≡ true))

abbrev pub IsEnd : Meaning → PlainServer → List ℕ → ExitStatus → List ℕ → Type 0
IsEnd meaning server all status text = IsLeft all status text ⊎ Exits meaning server all status text

-- one begins with no bytes and more
never_in_none : (all : List ℕ) → NeverHasMessage all → all ≢ []
never_in_none all never is =
    let message : IsMessage (frame [] ++ []) [] [] = framed_is_message [] [] (omega arith) in
    subst NeverHasMessage is never (frame [] ++ []) [] [] message

end_of : {meaning : Meaning} {server : PlainServer} {all text : List ℕ} {status : ExitStatus} → Ends meaning server all status text → IsEnd meaning server all status text
end_of (exits server status all body rest heard m h over) = inr (record { body = body; rest = rest; heard = heard; message = m; hears = h; over = over; text_is = refl })
end_of (closes server all is) = inl (record { none = subst HasNoMessage (sym is) none_in_none; text_is = refl; status_is = inl (is, refl) })
end_of (cuts_off server all none some) = inl (record { none = none; text_is = refl; status_is = inr (some, refl) })
end_of (strays server all never) = inl (record { none = none_now all never; text_is = refl; status_is = inr (never_in_none all never, refl) })

-- the same is written, and it ends the same way
abbrev pub AreOne : ExitStatus → ExitStatus → List ℕ → List ℕ → Type 0
AreOne s t x y = (x ≡ y) × ((s ≡ t) ⊎ ((is_left s ≡ true) × (is_left t ≡ true)))

statuses_one : (all : List ℕ) (s t : ExitStatus) → ((all ≡ []) × (s ≡ Closed)) ⊎ ((all ≢ []) × (is_left s ≡ true)) → ((all ≡ []) × (t ≡ Closed)) ⊎ ((all ≢ []) × (is_left t ≡ true))
    → (s ≡ t) ⊎ ((is_left s ≡ true) × (is_left t ≡ true))
statuses_one all s t (inl a) (inl b) = inl (a.1 ∙ sym b.1)
statuses_one all s t (inl a) (inr b) = absurd (b.0 a.0)
statuses_one all s t (inr a) (inl b) = absurd (a.0 b.0)
statuses_one all s t (inr a) (inr b) = inr (a.1, b.1)

one_end : (meaning : Meaning) (server : PlainServer) (all x y : List ℕ) (s t : ExitStatus) → IsEnd meaning server all s x → IsEnd meaning server all t y → AreOne s t x y
one_end meaning server all x y s t (inl a) (inl b) = (a.text_is ∙ sym b.text_is, statuses_one all s t a.status_is b.status_is)
one_end meaning server all x y s t (inl a) (inr e) = absurd (a.none e.body e.rest e.message)
one_end meaning server all x y s t (inr e) (inl b) = absurd (b.none e.body e.rest e.message)
one_end meaning server all x y s t (inr e) (inr f) =
    let same = (heard_one all e.body f.body e.rest f.rest e.heard f.heard e.message f.message e.hears f.hears).0 in
    let both : Over s ≡ Over t = sym e.over ∙ ap (goes server) same ∙ f.over in
    let status : s ≡ t = cc in
    (e.text_is ∙ ap (told meaning Whole server) same ∙ sym f.text_is, inl status)

-- where a message is answered and the server goes on, it doesn't end
no_end : (meaning : Meaning) (server next : PlainServer) (all body rest text : List ℕ) (status : ExitStatus) (heard : Option Said) → IsMessage all body rest → Hears body heard → goes server heard ≡ On next → IsEnd meaning server all status text → ⊥
no_end meaning server next all body rest text status heard m h on (inl a) = a.none body rest m
no_end meaning server next all body rest text status heard m h on (inr e) =
    let same = (heard_one all body e.body rest e.rest heard e.heard m e.message h e.hears).0 in
    let both : On next ≡ Over status = sym on ∙ ap (goes server) same ∙ e.over in
    cc

-- ---- all of it

one_text : (meaning : Meaning) {server last other : PlainServer} {all left more a b : List ℕ} {r s : List Reach} (p q : ExitStatus) (x y : List ℕ) → r ≡ s → Begins meaning server all r last left a → IsEnd meaning last left p x
    → Begins meaning server all s other more b → IsEnd meaning other more q y → AreOne p q (a ++ x) (b ++ y)
one_text meaning p q x y same_refusals (stands server all) e (stands server' all') f = one_end meaning server all x y p q e f
one_text meaning p q x y same_refusals (stands server all) e (goes_on server' next last all' body rest left text heard none later m h on may b) f = absurd (no_end meaning server next all body rest x p heard m h on e)
one_text meaning p q x y same_refusals (goes_on server next last all body rest left text heard none later m h on may b) e (stands server' all') f = absurd (no_end meaning server next all body rest y q heard m h on f)
one_text meaning p q x y same_refusals (goes_on server next last all body rest left text heard none later m h on may b) e (goes_on server' next' last' all' body' rest' left' text' heard' none' later' m' h' on' may' b') f =
    let memory : none ≡ none' = cc in
    let laters : later ≡ later' = cc in
    let same = heard_one all body body' rest rest' heard heard' m m' h h' in
    let both : On next ≡ On next' = sym on ∙ ap (goes server) same.0 ∙ on' in
    let nexts : next ≡ next' = cc in
    let moved = subst (λ (n : PlainServer). Begins meaning n rest later' last' left' text') (sym nexts) (subst (λ (l : List ℕ). Begins meaning next' l later' last' left' text') (sym same.1) b') in
    let rests = one_text meaning p q x y laters b e moved f in
    let first : told meaning none server heard ≡ told meaning none' server heard' = ap (told meaning none server) same.0 ∙ ap (λ (n : Reach). told meaning n server heard') memory in
    let is = append_assoc (told meaning none server heard) text x
    ∙ ap (λ (l : List ℕ). told meaning none server heard ++ l) rests.0
    ∙ ap (λ (l : List ℕ). l ++ (text' ++ y)) first
    ∙ sym (append_assoc (told meaning none' server heard') text' y) in
    (is, rests.1)

pub one_conversation : (meaning : Meaning) (all : List ℕ) (reaches : List Reach) (s t : ExitStatus) (x y : List ℕ) → Talks meaning all reaches s x → Talks meaning all reaches t y → AreOne s t x y
one_conversation meaning all reaches s t x y a b =
    let one = one_text meaning s t a.ending b.ending refl a.begins (end_of a.ends) b.begins (end_of b.ends) in
    (a.text_is ∙ one.0 ∙ sym b.text_is, one.1)
