-- Requests that their client has cancelled.
use Rattle.std.proofs.Common.{◌≡◌, ℕ, ◌-◌, List, [], ◌++◌, Option, Some, None, true, refl, ap, sym, subst, ◌∙◌, arith, append-nil}
use Rattle.std.specs.Prelude.{IfOk, Result, Ok, Err}
use Rattle.serde_json.specs.Data.{Data}
use Rattle.serde_json.specs.Written.{compact_text}
use Rattle.rb_lsp.specs.declared.rpc.limits.TheConstants.{MAX_WAITING}
use Rattle.rb_lsp.specs.declared.server.reach.Reach.{Reach}
use Rattle.rb_lsp.specs.declared.server.reach.Reach.TheVariants.{Cancelled, Whole}
use Rattle.rb_lsp.specs.Said.{Said, notification, request}
use Rattle.rb_lsp.specs.Cancels.{CancelWaits, Cancels, IsCancelled, later, now, undone}
use Rattle.rb_lsp.specs.Reaches.{MayReach}
use Rattle.rb_lsp.specs.declared.server.server.ServerReply.{ServerReply}
use Rattle.rb_lsp.specs.Meanings.{Meaning, can_reach}
use Rattle.rb_lsp.specs.Replies.{PlainServer, answer_body, published_run, request_run, run_for, sent, told_of}
use Rattle.rb_lsp.specs.declared.server.method.Method.{Method}
use Rattle.rb_lsp.specs.Methods.{method_of}
use Rattle.rb_lsp.specs.Serves.{Heeds}
use Rattle.rb_lsp.specs.Messages.{HasNoMessage, IsMessage, NeverHasMessage}
use Rattle.rb_lsp.proofs.MessageLaws.{longer, one_message}

pub none_of_no_more : (id : List ℕ) (n : ℕ) (bytes : List ℕ) → n ≡ 0 → CancelWaits id n bytes → ⊥
none_of_no_more id n bytes none (now n' bytes' body rest some is cancels) = omega (arith, none, some)
none_of_no_more id n bytes none (later n' bytes' body rest some is waits) = omega (arith, none, some)

pub none_of_no_message : (id : List ℕ) (n : ℕ) (bytes : List ℕ) → HasNoMessage bytes → CancelWaits id n bytes → ⊥
none_of_no_message id n bytes none (now n' bytes' body rest some is cancels) = none body rest is
none_of_no_message id n bytes none (later n' bytes' body rest some is waits) = none body rest is

pub none_of_never : (id : List ℕ) (n : ℕ) (bytes : List ℕ) → NeverHasMessage bytes → CancelWaits id n bytes → ⊥
none_of_never id n bytes never = none_of_no_message id n bytes (subst HasNoMessage (append-nil bytes) (never []))

-- the first message doesn't cancel it
pub only_later : (id : List ℕ) (n : ℕ) (bytes body rest : List ℕ) → IsMessage bytes body rest → (Cancels id body → ⊥) → CancelWaits id n bytes → CancelWaits id (n - 1) rest
only_later id n bytes body rest first other (now n' bytes' body' rest' some is cancels) =
    absurd (other (subst (Cancels id) (sym (one_message bytes body body' rest rest' first is).0) cancels))
only_later id n bytes body rest first other (later n' bytes' body' rest' some is waits) =
    subst (CancelWaits id (n - 1)) (sym (one_message bytes body body' rest rest' first is).1) waits

-- ---- what follows the bytes changes nothing

waits_longer : (id : List ℕ) (n : ℕ) (bytes more : List ℕ) → CancelWaits id n bytes → CancelWaits id n (bytes ++ more)
waits_longer id n bytes more (now n' bytes' body rest some is cancels) = now n (bytes ++ more) body (rest ++ more) some (longer bytes more body rest is) cancels
waits_longer id n bytes more (later n' bytes' body rest some is waits) = later n (bytes ++ more) body (rest ++ more) some (longer bytes more body rest is) (waits_longer id (n - 1) rest more waits)

pub may_longer : (meaning : Meaning) (server : PlainServer) (heard : Option Said) (reach : Reach) (held more all : List ℕ) → all ≡ held ++ more → MayReach meaning server heard reach held → MayReach meaning server heard reach all
may_longer meaning server heard reach held more all is may = record {
  stops = may.stops;
  only = λ id method params asks cancelled. subst (IsCancelled id) (sym is) (waits_longer (compact_text id) MAX_WAITING held more (may.only id method params asks cancelled));
}

-- ---- how far a message is done

-- all of it
pub may_whole : (meaning : Meaning) (server : PlainServer) (heard : Option Said) (held : List ℕ) → MayReach meaning server heard Whole held
may_whole meaning server heard held = record { stops = refl; only = λ id method params asks cancelled. absurd cc }

-- a request, by what is known of its answer
pub request_may : {E : Type 0} (r : Result ServerReply E) (meaning : Meaning) (server : PlainServer) (what : Said) (id : Data) (name : List ℕ) (method : Method) (params : Option Data) (held : List ℕ)
    → request id name params ≡ what → method ≡ method_of name → IfOk r (λ heard. heard.reach ≡ Cancelled → IsCancelled id held)
    → IfOk r (λ heard. can_reach meaning (request_run meaning server.documents server.phase method params) heard.reach ≡ true) → IfOk r (λ heard. MayReach meaning server (Some what) heard.reach held)
request_may (Ok heard) meaning server what id name method params held is named only stops = record {
  only = λ id' method' params' asks cancelled.
      let same : id ≡ id' = cc in
      subst (λ (d : Data). IsCancelled d held) same (only cancelled);
  stops =
      subst (λ (w : Said). can_reach meaning (run_for meaning server (Some w)) heard.reach ≡ true) is
      (subst (λ (m : Method). can_reach meaning (request_run meaning server.documents server.phase m params) heard.reach ≡ true) named stops);
}
request_may (Err e) meaning server what id name method params held is named only stops = tt

pub request_heeds : {E : Type 0} (r : Result ServerReply E) (meaning : Meaning) (server : PlainServer) (what : Said) (id : Data) (name : List ℕ) (method : Method) (params : Option Data) (held : List ℕ)
    → request id name params ≡ what → method ≡ method_of name
    → IfOk r (λ heard. IsCancelled id held → heard.out.items ≡ sent (Some (answer_body meaning (undone heard.reach) server method params id))) → IfOk r (λ heard. Heeds meaning server (Some what) held heard.reach heard.out.items)
request_heeds (Ok heard) meaning server what id name method params held is named known = record {
  out_is = λ id' method' params' asks waits.
      let same : id ≡ id' = cc in
      known (subst (λ (d : Data). IsCancelled d held) (sym same) waits)
      ∙ ap (λ (m : Method). sent (Some (answer_body meaning (undone heard.reach) server m params id))) named
      ∙ ap (told_of meaning (undone heard.reach) server) is;
}
request_heeds (Err e) meaning server what id name method params held is named known = tt

-- a notification, by what is known of what is published for it
pub notice_stops : {E : Type 0} (r : Result ServerReply E) (meaning : Meaning) (server : PlainServer) (what : Said) (name : List ℕ) (method : Method) (params : Option Data) → notification name params ≡ what → method ≡ method_of name
    → IfOk r (λ heard. can_reach meaning (published_run server method params) heard.reach ≡ true) → IfOk r (λ heard. can_reach meaning (run_for meaning server (Some what)) heard.reach ≡ true)
notice_stops (Ok heard) meaning server what name method params is named stops =
    subst (λ (w : Said). can_reach meaning (run_for meaning server (Some w)) heard.reach ≡ true) is
    (subst (λ (m : Method). can_reach meaning (published_run server m params) heard.reach ≡ true) named stops)
notice_stops (Err e) meaning server what name method params is named stops = tt

-- another message
abbrev pub IsNoRequest : Said → Type 0
IsNoRequest what = (id : Data) (method : List ℕ) (params : Option Data) → what ≡ request id method params → ⊥

pub others_may : {E : Type 0} (r : Result ServerReply E) (meaning : Meaning) (server : PlainServer) (what : Said) (held : List ℕ) → IsNoRequest what
    → IfOk r (λ heard. can_reach meaning (run_for meaning server (Some what)) heard.reach ≡ true) → IfOk r (λ heard. MayReach meaning server (Some what) heard.reach held)
others_may (Ok heard) meaning server what held none stops = record {
  only = λ id method params asks cancelled.
      let same : what ≡ request id method params = cc in
      absurd (none id method params same);
  stops = stops;
}
others_may (Err e) meaning server what held none stops = tt

pub others_heed : {E : Type 0} (r : Result ServerReply E) (meaning : Meaning) (server : PlainServer) (what : Said) (held : List ℕ) → IsNoRequest what → IfOk r (λ heard. Heeds meaning server (Some what) held heard.reach heard.out.items)
others_heed (Ok heard) meaning server what held none = record {
  out_is = λ id method params asks waits.
      let same : what ≡ request id method params = cc in
      absurd (none id method params same);
}
others_heed (Err e) meaning server what held none = tt

-- what isn't JSON is no request
pub none_heeds : (meaning : Meaning) (server : PlainServer) (held : List ℕ) (reach : Reach) (out : List ℕ) → Heeds meaning server None held reach out
none_heeds meaning server held reach out = record { out_is = λ id method params asks waits. absurd cc }
