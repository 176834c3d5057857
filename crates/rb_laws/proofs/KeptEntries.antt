-- What a log keeps when it gets another end, by an append or a snapshot of its term (Ongaro's thesis, section 3.6.3). Nothing here is about
-- nodes.
use Rattle.std.proofs.Common.{◌≡◌, ◌⊎◌, ℕ, ◌<◌, ◌≤◌, List, refl, sym, subst, arith, inl, inr}
use Rattle.std.specs.Prelude.{Contains}
use Rattle.std.proofs.lemmas.Bool.{cases_lt}
use Rattle.rb_message.specs.declared.message.Message.{Message}
use Rattle.rb_laws.proofs.Links.{Link}
use Rattle.rb_laws.proofs.Spots.{Spot, site, Descends, through, line}
use Rattle.rb_laws.proofs.Applied.{Applied}
use Rattle.rb_laws.proofs.LeaderLogs.{History, IsHistory, IsOfTerm, of_term_meet, has_or_lacks, HasStill, from_tip, from_link}
use Rattle.rb_laws.proofs.Completeness.{IsLawful, complete, IsSettled, safe_meet, safe_of_term}

-- a spot of the log of a term's leader, or of what is committed by then
abbrev pub IsOn : Spot → Applied → History → ℕ → Spot → Type 0
IsOn root start st term x = IsOfTerm st term x ⊎ IsSettled root start st term x

-- two of these are on one way down
pub on_meet : (root : Spot) (start : Applied) (said : List Message) (st : History) (term : ℕ) (x y : Spot) → IsLawful root start said st → IsOn root start st term x → IsOn root start st term y → x.index ≤ y.index → Descends st.links y x
on_meet root start said st term x y s a b low =
    elim a as (λ _. Descends st.links y x) [
      | inl first ↦ elim b as (λ _. Descends st.links y x) [
        | inl second ↦ of_term_meet root st term x y s.history first second low
        | inr safe ↦
            let e = first.ends.election in
            let t = first.ends.of_term in
            let second = subst (λ (n : ℕ). IsOfTerm st n y) t (safe_of_term root start said st e y s first.ends.among (subst (λ (n : ℕ). IsSettled root start st n y) (sym t) safe)) in
            of_term_meet root st term x y s.history first second low
      ]
      | inr safe ↦ elim b as (λ _. Descends st.links y x) [
        | inl second ↦
            let e = second.ends.election in
            let t = second.ends.of_term in
            let first = subst (λ (n : ℕ). IsOfTerm st n x) t (safe_of_term root start said st e x s second.ends.among (subst (λ (n : ℕ). IsSettled root start st n x) (sym t) safe)) in
            of_term_meet root st term x y s.history first second low
        | inr other ↦ safe_meet root start said st term term x y s safe other low
      ]
    ]

-- A log that gets an end that it had not goes on to have what is on its leader's way: what it said to hold in this term, and its commit.
pub still_on : (root : Spot) (start : Applied) (said : List Message) (st : History) (term : ℕ) (old new x : Spot) → IsLawful root start said st → IsOn root start st term new → (Descends st.links old new → ⊥) → IsOn root start st term x → Descends st.links old x → Descends st.links new x
still_on root start said st term old new x s on none what has =
    elim (cases_lt new.index x.index) as (λ _. Descends st.links new x) [
      | inl less ↦ (let up = on_meet root start said st term new x s on what (omega (arith, less)) in absurd (none (through st.links new x old has up)))
      | inr over ↦ on_meet root start said st term x new s what on over
    ]

-- what is behind one spot of a way down is behind another or before it
either_way : (root : Spot) (st : History) (top old new low : Spot) → IsHistory root st → Descends st.links top new → Descends st.links top low → (Descends st.links old new → ⊥) → Descends st.links old low → Descends st.links new low
either_way root st top old new low s a b none has =
    elim (cases_lt new.index low.index) as (λ _. Descends st.links new low) [
      | inl less ↦ (let up = line root st.links top new low s.tree a b (omega (arith, less)) in absurd (none (through st.links new low old has up)))
      | inr over ↦ line root st.links top low new s.tree b a over
    ]

-- and what it said to hold in an earlier term, unless a leader since lacks it
pub still_kept : (root : Spot) (start : Applied) (said : List Message) (st : History) (term bound : ℕ) (old new : Spot) (l : Link) → IsLawful root start said st → Contains st.links l → l.entry.term < term → term < bound → IsOn root start st term new → (Descends st.links old new → ⊥) → Descends st.links old root
    → HasStill st old bound l → HasStill st new bound l
still_kept root start said st term bound old new l s among earlier upto on none rooted kept =
    let st_s = s.history in
    elim kept as (λ _. HasStill st new bound l) [
      | inr lacked ↦ inr lacked
      | inl has ↦ elim on as (λ _. HasStill st new bound l) [
        | inl of_term ↦
            let e = of_term.ends.election in
            let t = of_term.ends.of_term in
            elim (has_or_lacks root st e l st_s of_term.ends.among among) as (λ _. HasStill st new bound l) [
              | inr lacks ↦ inr (e.term, omega (arith, earlier, t), omega (arith, upto, t), lacks)
              | inl there ↦
                  let own : IsOfTerm st term (site l) = record { tip = e.tip; ends = record { election = e; among = of_term.ends.among; of_term = t; is = inl refl }; descends = there } in
                  inl (still_on root start said st term old new (site l) s on none (inl own) has)
            ]
        | inr safe ↦ elim safe as (λ _. HasStill st new bound l) [
          | inl first ↦ absurd (none (subst (λ (x : Spot). Descends st.links old x) (sym first) rooted))
          | inr m ↦
              let made = st_s.made l among in
              let other = st_s.made m.0 m.1.is.among in
              let later = m.2 in
              elim (cases_lt m.0.entry.term l.entry.term) as (λ _. HasStill st new bound l) [
                | inl less ↦
                    let t = made.of_term in
                    let there = complete root start said st made.election m.0 s made.among m.1 (omega (arith, less, t)) in
                    let r = through st.links (site m.0) made.election.tip (site l) (from_tip root st l.index l made.election st_s (omega arith) among made.among t) there in
                    absurd (none (through st.links new (site l) old has (through st.links new (site m.0) (site l) r m.3)))
                | inr over ↦ elim (cases_lt l.entry.term m.0.entry.term) as (λ _. HasStill st new bound l) [
                  | inl past ↦
                      let e = other.election in
                      let t = other.of_term in
                      elim (has_or_lacks root st e l st_s other.among among) as (λ _. HasStill st new bound l) [
                        | inr lacks ↦ inr (e.term, omega (arith, past, t), omega (arith, later, upto, t), lacks)
                        | inl there ↦
                            let r = through st.links (site l) e.tip (site m.0) (from_tip root st m.0.index m.0 e st_s (omega arith) m.1.is.among other.among t) there in
                            inl (either_way root st (site m.0) old new (site l) st_s m.3 r none has)
                      ]
                  | inr same ↦
                      let terms : m.0.entry.term ≡ l.entry.term = omega (arith, over, same) in
                      elim (cases_lt m.0.index l.index) as (λ _. HasStill st new bound l) [
                        | inl less ↦
                            let r = from_link root st l.index l m.0 st_s (omega arith) among m.1.is.among terms (omega (arith, less)) in
                            absurd (none (through st.links new (site l) old has (through st.links new (site m.0) (site l) r m.3)))
                        | inr longer ↦
                            let r = from_link root st m.0.index m.0 l st_s (omega arith) m.1.is.among among (sym terms) longer in
                            inl (either_way root st (site m.0) old new (site l) st_s m.3 r none has)
                      ]
                ]
              ]
        ]
      ]
    ]
