-- One turn after another.
use Rattle.std.proofs.Common.{◌≡◌, ◌≢◌, ℕ, List, [], ◌∷◌, ◌++◌, Option, Some, None, refl, ap, sym, subst, ◌∙◌, append_assoc, append-nil}
use Rattle.std.specs.Prelude.{IfSome, IfOk, OnOk, OnErr, Result, Ok, Err, ⊤}
use Rattle.std.specs.Io.KnownBytes.{Appends, IsAtEnd}
use Rattle.std.proofs.KnownBytes.{Appends-nil, Appends-trans}
use Rattle.rb_script.specs.Writes.{AppendsFront}
use Rattle.rb_lsp.specs.Messages.{HasNoMessage, NeverHasMessage}
use Rattle.rb_lsp.specs.Reading.{LosesMessage}
use Rattle.rb_lsp.specs.Said.{Said, request, notification}
use Rattle.rb_lsp.specs.Reaches.{MayReach}
use Rattle.rb_lsp.proofs.CancelLaws.{may_longer, may_whole}
use Rattle.serde_json.specs.Data.{Data}
use Rattle.rb_lsp.specs.declared.rpc.fault.ServeFault.{ServeFault}
use Rattle.rb_lsp.specs.declared.server.phase.ExitStatus.{ExitStatus}
use Rattle.rb_lsp.specs.declared.server.phase.ExitStatus.TheVariants.{Closed, CutOff, NoMessage}
use Rattle.rb_lsp.specs.declared.server.reach.Reach.{Reach}
use Rattle.rb_lsp.specs.declared.server.reach.Reach.TheVariants.{Whole}
use Rattle.rb_lsp.specs.Meanings.{Meaning}
use Rattle.rb_lsp.specs.Methods.{method_of}
use Rattle.rb_lsp.specs.declared.server.method.Method.{Method}
use Rattle.rb_lsp.specs.declared.server.method.Method.TheVariants.{Exit}
use Rattle.rb_lsp.specs.Replies.{PlainServer, Turned, On, Over, fresh, noticed_by, published}
use Rattle.rb_lsp.specs.Talk.{Hears, told, goes, Begins, MayAnswer, stands, goes_on, exits, closes, cuts_off, strays, nothing, answer, waits, comes}
use Rattle.rb_lsp.specs.Serves.{Heeds, Responds, StartsAnswer, StartsTelling, Tells, TurnsOut, TurnBreaks, Served, BreaksOff, turned_of}

-- ---- writes

-- where a call fails, nothing may have gone out
front_none : (held : Option (List ℕ)) (text : List ℕ) → AppendsFront held held text
front_none held text = record { front = []; rest = text; parts = refl; appended = Appends-nil held }

-- a text went out, and a beginning of another
then_front : (old mid new : Option (List ℕ)) (text next : List ℕ) → Appends old mid text → AppendsFront mid new next → AppendsFront old new (text ++ next)
then_front old mid new text next wrote front = record {
  front = text ++ front.front;
  rest = front.rest;
  parts = ap (λ (l : List ℕ). text ++ l) front.parts ∙ sym (append_assoc text front.front front.rest);
  appended = Appends-trans old mid new text front.front wrote front.appended;
}

-- what a message has to have went out
pub tells_by : (meaning : Meaning) (reach : Reach) (server : PlainServer) (heard : Option Said) (held : List ℕ) (old new : Option (List ℕ)) (text : List ℕ) → MayReach meaning server heard reach held → Heeds meaning server heard held reach text
    → text ≡ told meaning reach server heard → Appends old new text → Tells meaning server heard held held old new
tells_by meaning reach server heard held old new text may heeds is wrote = record {
  reach = reach;
  may = may;
  heeds = subst (λ (l : List ℕ). Heeds meaning server heard held reach l) is heeds;
  wrote = subst (λ (l : List ℕ). Appends old new l) is wrote;
}

-- a beginning of it, whatever was answered
pub starts_err : {X E : Type 0} (r : Result X E) (meaning : Meaning) (reach : Reach) (server : PlainServer) (heard : Option Said) (held : List ℕ) (old new : Option (List ℕ)) (text : List ℕ)
    → MayReach meaning server heard reach held → text ≡ told meaning reach server heard → AppendsFront old new text → OnErr r (StartsTelling meaning server heard held old new)
starts_err (Ok x) meaning reach server heard held old new text may is front = tt
starts_err (Err e) meaning reach server heard held old new text may is front = record { reach = reach; may = may; wrote = subst (λ (l : List ℕ). AppendsFront old new l) is front }

-- and nothing, where it didn't come to that
pub none_err : {X E : Type 0} (r : Result X E) (meaning : Meaning) (server : PlainServer) (heard : Option Said) (held : List ℕ) (old : Option (List ℕ)) → OnErr r (StartsTelling meaning server heard held old old)
none_err (Ok x) meaning server heard held old = tt
none_err (Err e) meaning server heard held old = record { reach = Whole; may = may_whole meaning server heard held; wrote = front_none old (told meaning Whole server heard) }

-- ---- a message

pub responds_by : (meaning : Meaning) (server then : PlainServer) (body held : List ℕ) (heard : Option Said) (old new : Option (List ℕ)) (r : Result (Option ExitStatus) ServeFault) → Hears body heard
    → IfOk r (λ over. turned_of over then ≡ goes server heard) → OnOk r (Tells meaning server heard held held old new) → IfOk r (λ over. Responds meaning server body held (turned_of over then) old new)
responds_by meaning server then body held heard old new (Ok over) hears is tells = record { heard = heard; hears = hears; turned_is = is; tells = tells }
responds_by meaning server then body held heard old new (Err fault) hears is tells = tt

pub fails_by : (meaning : Meaning) (server : PlainServer) (body held : List ℕ) (heard : Option Said) (old new : Option (List ℕ)) (r : Result (Option ExitStatus) ServeFault) → Hears body heard
    → OnErr r (StartsTelling meaning server heard held old new) → OnErr r (StartsAnswer meaning server body held old new)
fails_by meaning server body held heard old new (Ok turned) hears s = tt
fails_by meaning server body held heard old new (Err fault) hears s = record { text = told meaning s.reach server heard; may = answer server body held heard s.reach hears s.may; wrote = s.wrote }

pub says_nothing : (meaning : Meaning) (server : PlainServer) (body held : List ℕ) (old : Option (List ℕ)) → StartsAnswer meaning server body held old old
says_nothing meaning server body held old = record { text = []; may = nothing server body held; wrote = front_none old [] }

-- ---- a message, by all bytes that are left after it

-- they begin with those that are held
abbrev pub Follows : List ℕ → Option (List ℕ) → Type 0
Follows held left = (rest : List ℕ) → left ≡ Some rest → (more : List ℕ) × (rest ≡ held ++ more)

tells_longer : (meaning : Meaning) (server : PlainServer) (heard : Option Said) (held more rest : List ℕ) (old new : Option (List ℕ)) → rest ≡ held ++ more → Tells meaning server heard held held old new → Tells meaning server heard held rest old new
tells_longer meaning server heard held more rest old new is t = record { reach = t.reach; may = may_longer meaning server heard t.reach held more rest is t.may; heeds = t.heeds; wrote = t.wrote }

may_answer_longer : (meaning : Meaning) (server : PlainServer) (body held more rest text : List ℕ) → rest ≡ held ++ more → MayAnswer meaning server body held text → MayAnswer meaning server body rest text
may_answer_longer meaning server body held more rest text is (nothing server' body' held') = nothing server body rest
may_answer_longer meaning server body held more rest text is (answer server' body' held' heard reach hears may) =
    answer server body rest heard reach hears (may_longer meaning server heard reach held more rest is may)

-- ---- a turn

-- where a message ends the server, what goes out doesn't depend on memory
published_over : (meaning : Meaning) (reach : Reach) (server : PlainServer) (method : Method) (params : Option Data) (status : ExitStatus) → noticed_by server method params ≡ Over status
    → published meaning reach server method params ≡ published meaning Whole server method params
published_over meaning reach server Exit params status over = refl
published_over meaning reach server method params status over = absurd cc

told_over : (meaning : Meaning) (reach : Reach) (server : PlainServer) (heard : Option Said) (status : ExitStatus) → goes server heard ≡ Over status → told meaning reach server heard ≡ told meaning Whole server heard
told_over meaning reach server (Some (request id method params)) status over = absurd cc
told_over meaning reach server (Some (notification method params)) status over = published_over meaning reach server (method_of method) params status over
told_over meaning reach server heard status over = refl

takes_by : (meaning : Meaning) (server : PlainServer) (turned : Turned) (before left old new : Option (List ℕ)) (body held : List ℕ) → Follows held left → LosesMessage before left body → Responds meaning server body held turned old new
    → TurnsOut meaning server turned held before left old new
takes_by meaning server (On next) None left old new body held follows loses r = tt
takes_by meaning server (On next) (Some all) None old new body held follows loses r = absurd loses
takes_by meaning server (On next) (Some all) (Some rest) old new body held follows loses r =
    let (more, is) = follows rest refl in record {
      body = body;
      rest = rest;
      heard = r.heard;
      left_is = refl;
      message = loses;
      hears = r.hears;
      next_is = sym r.turned_is;
      tells = tells_longer meaning server r.heard held more rest old new is r.tells;
    }
takes_by meaning server (Over status) None left old new body held follows loses r = tt
takes_by meaning server (Over status) (Some all) None old new body held follows loses r = absurd loses
takes_by meaning server (Over status) (Some all) (Some rest) old new body held follows loses r = record {
  text = told meaning Whole server r.heard;
  ends = exits server status all body rest r.heard loses r.hears (sym r.turned_is);
  wrote = subst (λ (l : List ℕ). Appends old new l) (told_over meaning r.tells.reach server r.heard status (sym r.turned_is)) r.tells.wrote;
}

-- a message came
pub turns_by : (meaning : Meaning) (server then : PlainServer) (r : Result (Option ExitStatus) ServeFault) (before left old new : Option (List ℕ)) (body seen held : List ℕ) → seen ≡ body → Follows held left → LosesMessage before left body
    → IfOk r (λ over. Responds meaning server seen held (turned_of over then) old new) → IfOk r (λ over. TurnsOut meaning server (turned_of over then) held before left old new)
turns_by meaning server then (Ok over) before left old new body seen held is follows loses r =
    takes_by meaning server (turned_of over then) before left old new body held follows loses (subst (λ (b : List ℕ). Responds meaning server b held (turned_of over then) old new) is r)
turns_by meaning server then (Err fault) before left old new body seen held is follows loses r = tt

starts_by : (meaning : Meaning) (server : PlainServer) (before left old new : Option (List ℕ)) (body held : List ℕ) → Follows held left → LosesMessage before left body → StartsAnswer meaning server body held old new
    → TurnBreaks meaning server before old new
starts_by meaning server None left old new body held follows loses s = tt
starts_by meaning server (Some all) None old new body held follows loses s = absurd loses
starts_by meaning server (Some all) (Some rest) old new body held follows loses s =
    let (more, is) = follows rest refl in
    record { text = s.text; may = comes server all body rest s.text loses (may_answer_longer meaning server body held more rest s.text is s.may); wrote = s.wrote }

pub breaks_by : (meaning : Meaning) (server : PlainServer) (r : Result (Option ExitStatus) ServeFault) (before left old new : Option (List ℕ)) (body seen held : List ℕ) → seen ≡ body → Follows held left → LosesMessage before left body
    → OnErr r (StartsAnswer meaning server seen held old new) → OnErr r (TurnBreaks meaning server before old new)
breaks_by meaning server (Ok turned) before left old new body seen held is follows loses s = tt
breaks_by meaning server (Err fault) before left old new body seen held is follows loses s =
    starts_by meaning server before left old new body held follows loses (subst (λ (b : List ℕ). StartsAnswer meaning server b held old new) is s)

-- none came, since a call failed
breaks_before : (meaning : Meaning) (server : PlainServer) (before held : Option (List ℕ)) → TurnBreaks meaning server before held held
breaks_before meaning server None held = tt
breaks_before meaning server (Some all) held = record { text = []; may = waits server all; wrote = front_none held [] }

pub breaks_err : (meaning : Meaning) {X E : Type 0} (r : Result X E) (server : PlainServer) (before held : Option (List ℕ)) → OnErr r (TurnBreaks meaning server before held held)
breaks_err meaning (Ok x) server before held = tt
breaks_err meaning (Err e) server before held = breaks_before meaning server before held

-- none is left
pub closed_by : (meaning : Meaning) (server : PlainServer) (seen : List ℕ) (before left held : Option (List ℕ)) → IsAtEnd before → TurnsOut meaning server (Over Closed) seen before left held held
closed_by meaning server seen None left held at_end = tt
closed_by meaning server seen (Some all) left held at_end = record { text = []; ends = closes server all at_end; wrote = Appends-nil held }

pub cut_by : (meaning : Meaning) (server : PlainServer) (seen : List ℕ) (before left held : Option (List ℕ)) → IfSome before (λ all. HasNoMessage all × (all ≢ [])) → TurnsOut meaning server (Over CutOff) seen before left held held
cut_by meaning server seen None left held cut = tt
cut_by meaning server seen (Some all) left held cut = record { text = []; ends = cuts_off server all cut.0 cut.1; wrote = Appends-nil held }

pub stray_by : (meaning : Meaning) (server : PlainServer) (seen : List ℕ) (before left held : Option (List ℕ)) → IfSome before NeverHasMessage → TurnsOut meaning server (Over NoMessage) seen before left held held
stray_by meaning server seen None left held never = tt
stray_by meaning server seen (Some all) left held never = record { text = []; ends = strays server all never; wrote = Appends-nil held }

-- ---- all turns

-- what was answered so far begins a conversation over all, whatever follows
pub record SoFar (meaning : Meaning) (all : List ℕ) (server : PlainServer) (left old new : Option (List ℕ)) : Type 0 where
  pub reaches : List Reach
  pub text : List ℕ
  pub rest : List ℕ
  pub left_is : left ≡ Some rest
  pub wrote : Appends old new text
  pub begins : (later : List Reach) (last : PlainServer) (end more : List ℕ) → Begins meaning server rest later last end more → Begins meaning fresh all (reaches ++ later) last end (text ++ more)

begun : (meaning : Meaning) (all : List ℕ) (server : PlainServer) (left old new : Option (List ℕ)) (far : SoFar meaning all server left old new) → Begins meaning fresh all far.reaches server far.rest far.text
begun meaning all server left old new far =
    let whole = far.begins [] server far.rest [] (stands server far.rest) in
    subst (λ (l : List ℕ). Begins meaning fresh all far.reaches server far.rest l) (append-nil far.text)
    (subst (λ (r : List Reach). Begins meaning fresh all r server far.rest (far.text ++ [])) (append-nil far.reaches) whole)

abbrev pub Far : Meaning → Option (List ℕ) → PlainServer → Option (List ℕ) → Option (List ℕ) → Option (List ℕ) → Type 0
Far meaning None server left old new = ⊤
Far meaning (Some all) server left old new = SoFar meaning all server left old new

pub far_none : (meaning : Meaning) (first left held : Option (List ℕ)) → left ≡ first → Far meaning first fresh left held held
far_none meaning None left held is = tt
far_none meaning (Some all) left held is = record { reaches = []; text = []; rest = all; left_is = is; wrote = Appends-nil held; begins = λ later last end more b. b }

pub far_more : (meaning : Meaning) (seen : List ℕ) (first left after old mid new : Option (List ℕ)) (server next : PlainServer) → Far meaning first server left old mid → TurnsOut meaning server (On next) seen left after mid new → Far meaning first next after old new
far_more meaning seen None left after old mid new server next far turned = tt
far_more meaning seen (Some all) left after old mid new server next far turned =
    let t = subst (λ (l : Option (List ℕ)). TurnsOut meaning server (On next) seen l after mid new) far.left_is turned in
    let none = t.tells.reach in
    let piece = told meaning none server t.heard in record {
      reaches = far.reaches ++ none ∷ [];
      text = far.text ++ piece;
      rest = t.rest;
      left_is = t.left_is;
      wrote = Appends-trans old mid new far.text piece far.wrote t.tells.wrote;
      begins = λ later last end more b. subst (λ (l : List ℕ). Begins meaning fresh all ((far.reaches ++ none ∷ []) ++ later) last end l) (sym (append_assoc far.text piece more))
          (subst (λ (r : List Reach). Begins meaning fresh all r last end (far.text ++ (piece ++ more))) (sym (append_assoc far.reaches (none ∷ []) later))
          (far.begins (none ∷ later) last end (piece ++ more) (goes_on server next last far.rest t.body t.rest end more t.heard none later t.message t.hears t.next_is t.tells.may b)));
    }

pub far_over : (meaning : Meaning) (seen : List ℕ) (first left after old mid new : Option (List ℕ)) (server : PlainServer) (status : ExitStatus) → Far meaning first server left old mid → TurnsOut meaning server (Over status) seen left after mid new → Served meaning first status old new
far_over meaning seen None left after old mid new server status far turned = tt
far_over meaning seen (Some all) left after old mid new server status far turned =
    let e = subst (λ (l : Option (List ℕ)). TurnsOut meaning server (Over status) seen l after mid new) far.left_is turned in record {
      reaches = far.reaches;
      text = far.text ++ e.text;
      talks = record { last = server; left = far.rest; answers = far.text; ending = e.text; begins = begun meaning all server left old mid far; ends = e.ends; text_is = refl };
      wrote = Appends-trans old mid new far.text e.text far.wrote e.wrote;
    }

pub far_broken : (meaning : Meaning) (first left old mid new : Option (List ℕ)) (server : PlainServer) → Far meaning first server left old mid → TurnBreaks meaning server left mid new → BreaksOff meaning first old new
far_broken meaning None left old mid new server far broken = tt
far_broken meaning (Some all) left old mid new server far broken =
    let s = subst (λ (l : Option (List ℕ)). TurnBreaks meaning server l mid new) far.left_is broken in record {
      reaches = far.reaches;
      last = server;
      left = far.rest;
      answers = far.text;
      next = s.text;
      begins = begun meaning all server left old mid far;
      may = s.may;
      wrote = then_front old mid new far.text s.text far.wrote s.wrote;
    }

-- all calls were made
pub far_stopped : (meaning : Meaning) (first left old mid : Option (List ℕ)) (server : PlainServer) → Far meaning first server left old mid → BreaksOff meaning first old mid
far_stopped meaning first left old mid server far = far_broken meaning first left old mid mid server far (breaks_before meaning server left mid)
