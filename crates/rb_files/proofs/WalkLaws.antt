-- Steps of a search, and what they come to together.
use Rattle.std.proofs.Common.{◌≡◌, ◌∙◌, ℕ, suc, ◌+◌, Bool, true, false, not, List, [], ◌∷◌, ◌++◌, IfOk, Option, Result, Ok, Err, Some, String, ap, append_assoc, drop, refl, string_bytes, subst, sym}
use Rattle.std.specs.Prelude.{MatchBool, slice_get}
use Rattle.std.specs.BTreeSet.{IsUnchanged, contains, insert_key}
use Rattle.std.specs.declared.alloc.Global.{Global}
use Rattle.std.specs.declared.cmp.Ordering.{Ordering}
use Rattle.std.proofs.lemmas.List.{drop_more}
use Rattle.std.proofs.lemmas.Option.{slice_get_within, get_or_from_slice_get}
use Rattle.rb_report.specs.declared.check.failure.Failure.{Failure}
use Rattle.rb_files.specs.Finds.{Heeds, IsKept, Loses, Waits, WaitsFor, losses, names_of, undecodable, waiting_of}
use Rattle.rb_files.specs.PathErrors.{without_cause}
use Rattle.rb_files.specs.Walks.{Enters, Follows, IsBegun, Lists, LooksAt, Takes, Visits, Walks, asked}
use Rattle.rb_files.specs.declared.entry.FileId.{FileId}
use Rattle.rb_files.specs.declared.entry.FolderId.{FolderId}
use Rattle.rb_files.specs.declared.entry.PathEntry.{PathEntry}
use Rattle.rb_files.specs.declared.entry.PathEntry.TheVariants as entry
use Rattle.rb_files.specs.declared.finding.Found.{Found}
use Rattle.rb_files.specs.declared.finding.Search.{Search}
use Rattle.rb_files.specs.declared.finding.Waiting.{Waiting}
use Rattle.rb_files.specs.declared.listing.Listing.{Listing}
use Rattle.rb_files.specs.declared.path_error.PathError.{PathError}

-- what follows where a call was made
pub because : {X Y : Type 0} (r : Result X Y) (P Q : Type 0) → (P → Q) → IfOk r (λ _. P) → IfOk r (λ _. Q)
because (Ok x) P Q f p = f p
because (Err y) P Q f p = tt

-- where a test says which of two is so
pub matched : {X Y : Type 0} (r : Result X Y) (b : Bool) (P Q : Type 0) → (b ≡ true → IfOk r (λ _. P)) → (b ≡ false → Q) → IfOk r (λ _. MatchBool b P Q)
matched r true P Q p q = p refl
matched (Ok x) false P Q p q = q refl
matched (Err y) false P Q p q = tt

-- one loss after another, and one path after another
pub lose_on : (old mid new : Search) → mid ≡ record old { found = record old.found { lost = mid.found.lost } } → new ≡ record mid { found = record mid.found { lost = new.found.lost } } → new ≡ record old { found = record old.found { lost = new.found.lost } }
lose_on old mid new before after = after ∙ ap (λ (m : Search). record m { found = record m.found { lost = new.found.lost } }) before

pub wait_on : (old mid new : Search) → mid ≡ record old { waiting = mid.waiting } → new ≡ record mid { waiting = new.waiting } → new ≡ record old { waiting = new.waiting }
wait_on old mid new before after = after ∙ ap (λ (m : Search). record m { waiting = new.waiting }) before

-- first the names that are no text are lost, then the others wait
pub waits_on : (folder : List ℕ) (listing : Listing) (old mid new : Search) → mid ≡ record old { found = record old.found { lost = mid.found.lost } } → losses mid.found.lost.items ≡ losses old.found.lost.items ++ undecodable folder listing.strange.items
    → WaitsFor (waiting_of mid.ignored.items folder listing.names.items) mid new → Waits folder listing old new
waits_on folder listing old mid new same lost w =
    let found : new.found ≡ mid.found = ap (λ (s : Search). s.found) w.0 in (
      w.0 ∙ ap (λ (m : Search). record m { waiting = new.waiting }) same ∙ ap (λ (f : Found). record old { waiting = new.waiting; found = record old.found { lost = f.lost } }) (sym found),
      ap (λ (f : Found). losses f.lost.items) found ∙ lost,
      w.1 ∙ ap (λ (m : Search). names_of m.waiting.items ++ waiting_of m.ignored.items folder listing.names.items) same,
    )

-- what waits for one path of the command line more
pub asked_step : (texts : List (List ℕ)) (i : ℕ) (text : List ℕ) (old had new : List (List ℕ × Bool)) → slice_get texts i ≡ Some text
    → had ≡ old ++ asked (drop (i + 1) texts) → new ≡ had ++ (text, true) ∷ [] → new ≡ old ++ asked (drop i texts)
asked_step texts i text old had new got so_far more =
    let rest : List (List ℕ) = drop (i + 1) texts in
    let next : drop i texts ≡ text ∷ rest = drop_more texts i text (slice_get_within texts i text got) ∙ ap (λ (t : List ℕ). t ∷ rest) (get_or_from_slice_get texts i text text got) in
    more
    ∙ ap (λ (paths : List (List ℕ × Bool)). paths ++ (text, true) ∷ []) so_far
    ∙ append_assoc old (asked rest) ((text, true) ∷ [])
    ∙ sym (ap (λ (ts : List (List ℕ)). old ++ asked ts) next)

-- nothing but the paths of the command line was done
pub begun : (paths : List (List ℕ)) (old mid : Search) → IsBegun [] old → WaitsFor (asked paths) old mid → IsBegun paths mid
begun paths old mid h w = record {
  scripts = ap (λ (s : Search). s.found.scripts.items) w.0 ∙ h.scripts;
  lost = ap (λ (s : Search). losses s.found.lost.items) w.0 ∙ h.lost;
  cut = ap (λ (s : Search). s.found.is_cut) w.0 ∙ h.cut;
  waiting = w.1 ∙ ap (λ (ws : List (List ℕ × Bool)). ws ++ asked paths) h.waiting;
  ignored = ap (λ (s : Search). s.ignored.items) w.0 ∙ h.ignored;
  files = ap (λ (s : Search). s.files.keys) w.0 ∙ h.files;
  folders = ap (λ (s : Search). s.folders.keys) w.0 ∙ h.folders;
}

-- a folder isn't visited, or it is, where its ignore file says so
pub visits_not : (ignores : List ℕ → Result (Option (String Global)) PathError → Type 0) (listings : List ℕ → Result Listing PathError → Type 0) (folder : List ℕ) (said : Result (Option (String Global)) PathError) (visits : Bool) (old new : Search)
    → ignores folder said → Heeds folder said visits old new → visits ≡ false → Visits ignores listings folder old new
visits_not ignores listings folder said visits old new told heeds off =
    (said, visits, new, told, heeds, subst (λ (b : Bool). MatchBool b (Lists listings folder new new) (new ≡ new)) (sym off) refl)

pub visits_then : {X Y : Type 0} (r : Result X Y) (ignores : List ℕ → Result (Option (String Global)) PathError → Type 0) (listings : List ℕ → Result Listing PathError → Type 0) (folder : List ℕ) (said : Result (Option (String Global)) PathError) (visits : Bool) (old mid new : Search)
    → ignores folder said → Heeds folder said visits old mid → visits ≡ true → IfOk r (λ _. Lists listings folder mid new) → IfOk r (λ _. Visits ignores listings folder old new)
visits_then (Ok x) ignores listings folder said visits old mid new told heeds is lists =
    (said, visits, mid, told, heeds, subst (λ (b : Bool). MatchBool b (Lists listings folder mid new) (new ≡ mid)) (sym is) lists)
visits_then (Err y) ignores listings folder said visits old mid new told heeds is lists = tt

-- a folder that is new is visited
pub enters_by : {X Y : Type 0} (r : Result X Y) (ignores : List ℕ → Result (Option (String Global)) PathError → Type 0) (listings : List ℕ → Result Listing PathError → Type 0) (cmp : FolderId → FolderId → Ordering) (folder : List ℕ) (id : FolderId) (added : Bool) (old mid new : Search)
    → added ≡ not (contains cmp old.folders id) → added ≡ true → mid ≡ record old { folders = mid.folders } → mid.folders.keys ≡ insert_key cmp old.folders.keys id
    → IfOk r (λ _. Visits ignores listings folder mid new) → IfOk r (λ _. Enters ignores listings cmp folder id old new)
enters_by r ignores listings cmp folder id added old mid new says is same keys visits =
    because r _ _ (λ v. enters_new ignores listings cmp folder id old mid new (contains cmp old.folders id) refl (unknown (contains cmp old.folders id) (sym says ∙ is)) same keys v) visits
  where
    unknown : (b : Bool) → not b ≡ true → b ≡ false
    unknown true e = absurd cc
    unknown false e = refl

    enters_new : (ignores : List ℕ → Result (Option (String Global)) PathError → Type 0) (listings : List ℕ → Result Listing PathError → Type 0) (cmp : FolderId → FolderId → Ordering) (folder : List ℕ) (id : FolderId) (old mid new : Search) (known : Bool)
        → contains cmp old.folders id ≡ known → known ≡ false → mid ≡ record old { folders = mid.folders } → mid.folders.keys ≡ insert_key cmp old.folders.keys id → Visits ignores listings folder mid new → Enters ignores listings cmp folder id old new
    enters_new ignores listings cmp folder id old mid new known is unseen same keys v =
        subst
        (λ (b : Bool). MatchBool b ((new ≡ record old { folders = new.folders }) × IsUnchanged old.folders new.folders)
        ((m : Search) × (m ≡ record old { folders = m.folders }) × (m.folders.keys ≡ insert_key cmp old.folders.keys id) × Visits ignores listings folder m new))
        (sym (is ∙ unseen)) (mid, same, keys, v)

-- what is done of what is at a path
module _ (entries : List ℕ → Result PathEntry PathError → Type 0) (ignores : List ℕ → Result (Option (String Global)) PathError → Type 0) (listings : List ℕ → Result Listing PathError → Type 0)
    (file_cmp : FileId → FileId → Ordering) (folder_cmp : FolderId → FolderId → Ordering) (words : List (String Global)) where
  pub follows_folder : {X Y : Type 0} (r : Result X Y) (next : Waiting) (e : PathEntry) (id : FolderId) (folder : List ℕ) (old new : Search) → e ≡ entry.Folder id → folder ≡ string_bytes next.path
      → IfOk r (λ _. Enters ignores listings folder_cmp folder id old new) → IfOk r (λ _. Follows entries ignores listings file_cmp folder_cmp words next (Ok e) old new)
  follows_folder r next e id folder old new is path h =
      because r _ _ (λ v. subst (λ (x : PathEntry). Follows entries ignores listings file_cmp folder_cmp words next (Ok x) old new) (sym is) (subst (λ (f : List ℕ). Enters ignores listings folder_cmp f id old new) path v)) h

  pub follows_file : {X Y : Type 0} (r : Result X Y) (next : Waiting) (e : PathEntry) (id : FileId) (old new : Search) → e ≡ entry.File id
      → (next.is_script ≡ true → IfOk r (λ _. Takes file_cmp words next.path id old new)) → (next.is_script ≡ false → new ≡ old)
      → IfOk r (λ _. Follows entries ignores listings file_cmp folder_cmp words next (Ok e) old new)
  follows_file r next e id old new is taken passed =
      because r _ _ (λ v. subst (λ (x : PathEntry). Follows entries ignores listings file_cmp folder_cmp words next (Ok x) old new) (sym is) v) (matched r next.is_script _ _ taken passed)

  pub follows_other : {X Y : Type 0} (r : Result X Y) (next : Waiting) (e : PathEntry) (failure : Failure) (old new : Search) → e ≡ entry.Other failure
      → (next.is_script ≡ true → IfOk r (λ _. Loses (string_bytes next.path) (without_cause failure) old new)) → (next.is_script ≡ false → new ≡ old)
      → IfOk r (λ _. Follows entries ignores listings file_cmp folder_cmp words next (Ok e) old new)
  follows_other r next e failure old new is lost passed =
      because r _ _ (λ v. subst (λ (x : PathEntry). Follows entries ignores listings file_cmp folder_cmp words next (Ok x) old new) (sym is) v) (matched r next.is_script _ _ lost passed)

  -- one path more
  pub walks_on : (next : Waiting) (old mid rest new : Search) → Walks entries ignores listings file_cmp folder_cmp words old mid → rest ≡ record mid { waiting = rest.waiting } → mid.waiting.items ≡ rest.waiting.items ++ next ∷ []
      → LooksAt entries ignores listings file_cmp folder_cmp words next rest new → Walks entries ignores listings file_cmp folder_cmp words old new
  walks_on next old mid rest new so_far same popped looked = (suc so_far.0, (mid, so_far.1, (next, rest, same, popped, looked)))

-- a script is taken by these rules
pub taken_by : {X Y : Type 0} (r : Result X Y) (cmp : FileId → FileId → Ordering) (words : List (String Global)) (path : String Global) (id : FileId) (old new : Search)
    → ((IsKept words (string_bytes path) → ⊥) → new ≡ old)
    → (IsKept words (string_bytes path) → contains cmp old.files id ≡ true → IfOk r (λ _. (new ≡ record old { files = new.files }) × IsUnchanged old.files new.files))
    → (IsKept words (string_bytes path) → contains cmp old.files id ≡ false → IfOk r (λ _. (new ≡ record old { files = new.files; found = record old.found { scripts = new.found.scripts } })
    × (new.found.scripts.items ≡ old.found.scripts.items ++ path ∷ []) × (new.files.keys ≡ insert_key cmp old.files.keys id)))
    → IfOk r (λ _. Takes cmp words path id old new)
taken_by (Ok x) cmp words path id old new f k a = record { filtered = f; known = k; added = a }
taken_by (Err y) cmp words path id old new f k a = tt
