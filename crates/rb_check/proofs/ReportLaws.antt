-- A report: scripts, one after another, and the whole of it.
use Rattle.std.proofs.Common.{◌≡◌, ◌∙◌, ℕ, ◌+◌, ◌-◌, ◌≤◌, true, false, List, [], ◌∷◌, ◌++◌, length, Option, Some, String, Global, refl, ap, sym, subst, take, append_assoc, append-nil, arith}
use Rattle.std.specs.Io.KnownBytes.{Keeps}
use Rattle.std.specs.Prelude.{◌≢◌, ⊤, slice_get, string_bytes}
use Rattle.std.proofs.lemmas.Grind.{flat_map-append}
use Rattle.std.proofs.lemmas.List.Sums.{fold-append}
use Rattle.rb_files.specs.declared.finding.Found.{Found}
use Rattle.rb_report.specs.declared.check.totals.Totals.{Totals}
use Rattle.rb_report.specs.Counts.{nothing, together}
use Rattle.rb_script.proofs.ListLaws.{take_there}
use Rattle.rb_check.specs.declared.check_request.CheckRequest.{CheckRequest}
use Rattle.rb_check.specs.declared.differing.Differing.{Differing}
use Rattle.rb_check.specs.declared.report_state.ReportForm.{ReportForm}
use Rattle.rb_check.specs.declared.report_state.ReportState.{ReportState}
use Rattle.rb_check.specs.declared.results.Results.{Results}
use Rattle.rb_check.specs.declared.review.Review.{Review}
use Rattle.rb_check.specs.declared.review.Review.TheVariants as reviews
use Rattle.rb_check.specs.declared.running_check.RunningCheck.{RunningCheck}
use Rattle.rb_check.specs.declared.script_result.PathResult.{PathResult}
use Rattle.rb_check.specs.Lost.{lost_results, lost_text}
use Rattle.rb_check.specs.Reported.{AreChecked, AreInTurn, IsChecked, IsFoundOf, IsNext, IsReport, Reports}
use Rattle.rb_check.specs.Results.{CheckedPath, ListedScript, checked_path, counts_of, counts_with, listed_in, listed_of, listing}
use Rattle.rb_check.specs.Reviews.{review_end}
use Rattle.rb_check.specs.Shown.{GoesOut, GoesOutInPart, Lists, Prints, begun_text, lacking, lacks_memory, last_text, started}
use Rattle.rb_check.proofs.ShownLaws.{goes_heeded, goes_nothing, goes_on, goes_then, one_lacks, part_nothing, part_whole}

-- ---- what is counted and listed

pub lists_none : (s : ReportState) (had has : List Differing) → has ≡ had → Lists s had has []
lists_none s had has same = λ memory. ap listing same ∙ sym (append-nil (listing had))

pub lists_lacking : (s t : ReportState) (had has : List Differing) (scripts : List ListedScript) → t ≡ lacking s → Lists t had has scripts
lists_lacking s t had has scripts is = λ memory. let no : true ≡ false = sym (ap lacks_memory is ∙ one_lacks s.own.without_memory) ∙ memory in absurd cc

pub lists_then : {one two : ReportState} {before after : Option (List ℕ)} {text : List ℕ} (a b c : List Differing) (some more : List ListedScript) → Lists one a b some → GoesOut one two before after text → Lists two b c more
    → Lists two a c (some ++ more)
lists_then a b c some more first out second = λ memory. second memory ∙ ap (λ (l : List ListedScript). l ++ more) (first (out.out memory).memory) ∙ append_assoc (listing a) some more

pub counts_then : (t : Totals) (some more : List CheckedPath) → counts_of (counts_of t some) more ≡ counts_of t (some ++ more)
counts_then t some more = sym (fold-append (λ (u : Totals) (checked : CheckedPath). counts_with u checked.found) t some more)

one_listed : (results : List CheckedPath) (path : List ℕ) (found : PathResult) → listed_in results ++ listed_of path found ≡ listed_in (results ++ checked_path path found ∷ [])
one_listed results path found =
    sym (flat_map-append (λ (checked : CheckedPath). listed_of checked.path checked.found) results (checked_path path found ∷ []) ∙ ap (λ (l : List ListedScript). listed_in results ++ l) (append-nil (listed_of path found)))

-- ---- after how bytes go out has changed

module _ {s u n : ReportState} {a b c : Option (List ℕ)} where
  pub part_heeded : u ≡ s → Keeps a b → GoesOutInPart u n b c → GoesOutInPart s n a c
  part_heeded same kept part = part_whole part.text (goes_heeded same kept part.out)

pub nothing_heeded : {s u : ReportState} {a b : Option (List ℕ)} → u ≡ s → Keeps a b → GoesOutInPart s u a b
nothing_heeded {u = u} {b = b} same kept = part_heeded same kept (part_nothing u b)

-- ---- scripts, one after another

none_in_turn : (asked : CheckRequest) (form : ReportForm) (now : Review) → AreInTurn asked form [] now now [] []
unfolding AreInTurn
none_in_turn asked form now = (refl, refl, refl)

in_turn_on : (asked : CheckRequest) (form : ReportForm) (scripts : List (String Global)) (script : String Global) (before between after : Review) (results : List CheckedPath) (found : PathResult) (text next : List ℕ)
    → AreInTurn asked form scripts before between results text → IsNext asked form (string_bytes script) between after found next
    → AreInTurn asked form (scripts ++ script ∷ []) before after (results ++ checked_path (string_bytes script) found ∷ []) (text ++ next)
unfolding AreInTurn
in_turn_on asked form [] script before between after results found text next had is = (
  after,
  found,
  [],
  next,
  [],
  subst (λ (p : Review). IsNext asked form (string_bytes script) p after found next) had.0 is,
  none_in_turn asked form after,
  ap (λ (l : List CheckedPath). l ++ checked_path (string_bytes script) found ∷ []) had.1,
  ap (λ (l : List ℕ). l ++ next) had.2 ∙ sym (append-nil next),
)
in_turn_on asked form (first ∷ scripts) script before between after results found text next had is = (
  had.0,
  had.1,
  had.2 ++ checked_path (string_bytes script) found ∷ [],
  had.3,
  had.4 ++ next,
  had.5,
  in_turn_on asked form scripts script had.0 between after had.2 found had.4 next had.6 is,
  ap (λ (l : List CheckedPath). l ++ checked_path (string_bytes script) found ∷ []) had.7,
  ap (λ (l : List ℕ). l ++ next) had.8 ∙ append_assoc had.3 had.4 next,
)

module _ {W E : Type 0} (held : W → Option (List ℕ)) (asked : CheckRequest) (scripts : List (String Global)) (start : RunningCheck W E) where
  -- the first of them are checked
  abbrev pub AreDone : ℕ → Review → RunningCheck W E → Type 0
  AreDone done now check = Reports held start check (AreInTurn asked start.report.state.form (take done scripts) reviews.Each now)

  pub none_done : AreDone 0 reviews.Each start
  none_done = record {
    results = [];
    text = [];
    said = none_in_turn asked start.report.state.form reviews.Each;
    counted = refl;
    lists = lists_none start.report.state start.results.differing.items start.results.differing.items refl;
    out = goes_nothing start.report.state (held start.report.output);
  }

  pub one_done : (done : ℕ) (script : String Global) (now next : Review) (two three : RunningCheck W E) → AreDone done now two → slice_get scripts done ≡ Some script → now ≢ reviews.Over → (asked.reviews ≡ false → next ≡ now)
      → (found : PathResult) → (text : List ℕ) → IsChecked (λ path bytes. ⊤) (λ path other is. ⊤) asked ⊥ [] two.report.state.form (string_bytes script) now next found text → three.results.counts ≡ counts_with two.results.counts found
      → Lists three.report.state two.results.differing.items three.results.differing.items (listed_of (string_bytes script) found) → Prints held two.report three.report text → AreDone (done + 1) next three
  one_done done script now next two three had got ongoing unasked found text is counts lists out =
      let form = start.report.state.form in
      let path = string_bytes script in
      let one : IsNext asked form path now next found text = record { ongoing = ongoing; unasked = unasked; checked = subst (λ (f : ReportForm). IsChecked (λ p bytes. ⊤) (λ p other is. ⊤) asked ⊥ [] f path now next found text) had.out.form is } in
      record {
        results = had.results ++ checked_path path found ∷ [];
        text = had.text ++ text;
        said = subst (λ (l : List (String Global)). AreInTurn asked form l reviews.Each next (had.results ++ checked_path path found ∷ []) (had.text ++ text)) (sym (take_there scripts done script got))
            (in_turn_on asked form (take done scripts) script reviews.Each now next had.results found had.text text had.said one);
        counted = counts ∙ ap (λ (t : Totals). counts_with t found) had.counted ∙ counts_then start.results.counts had.results (checked_path path found ∷ []);
        lists = subst (λ (l : List ListedScript). Lists three.report.state start.results.differing.items three.results.differing.items l) (one_listed had.results path found)
            (lists_then start.results.differing.items two.results.differing.items three.results.differing.items (listed_in had.results) (listed_of path found) had.lists out lists);
        out = goes_on (λ (f : ReportForm). text) had.out out;
      }

  -- all that are to be
  pub all_done : (done : ℕ) (now : Review) (two three : RunningCheck W E) → AreDone done now two → done ≤ length scripts → (now ≢ reviews.Over → length scripts ≤ done) → three.results ≡ two.results
      → Prints held two.report three.report (review_end now two.results.counts.accepted (length scripts - done)) → Reports held start three (AreChecked asked start.report.state.form scripts three.results.counts)
  all_done done now two three had within all same ended =
      let counts : three.results.counts ≡ two.results.counts = ap (λ (r : Results). r.counts) same in
      record {
        results = had.results;
        text = had.text ++ review_end now two.results.counts.accepted (length scripts - done);
        said = record {
          done = done;
          review = now;
          shown = had.text;
          within = within;
          in_turn = had.said;
          all = λ ongoing. omega (arith, within, all ongoing);
          text_is = ap (λ (t : Totals). had.text ++ review_end now t.accepted (length scripts - done)) (sym counts);
        };
        counted = counts ∙ had.counted;
        lists = λ memory. ap (λ (r : Results). listing r.differing.items) same ∙ had.lists (ended.out memory).memory;
        out = goes_on (λ (f : ReportForm). review_end now two.results.counts.accepted (length scripts - done)) had.out ended;
      }

-- ---- the whole report

module _ {W E : Type 0} (held : W → Option (List ℕ)) (asked : CheckRequest) (found : Found) (milliseconds : ℕ) (three four five : RunningCheck W E) {two : ReportState} {a b : Option (List ℕ)} where
  pub whole_report : IsFoundOf asked found → GoesOut (started asked) two a b (begun_text (started asked).form) → three.results.counts ≡ counts_of nothing (lost_results found) → three.results.differing.items ≡ []
      → GoesOut two three.report.state b (held three.report.output) (lost_text two.form found)
      → Reports held three four (AreChecked asked three.report.state.form found.scripts.items four.results.counts) → five.results ≡ four.results
      → Prints held four.report five.report (last_text asked (length found.scripts.items) four.report.state.form four.results.differing.items (together four.results.counts four.report.state.own) milliseconds)
      → (text : List ℕ) × IsReport asked five.report.state five.results.counts text × GoesOut (started asked) five.report.state a (held five.report.output) text
  whole_report found_is begun counts none lost checked same ended =
      let form = (started asked).form in
      let n = length found.scripts.items in
      let last = λ (f : ReportForm) (own : Totals). last_text asked n f four.results.differing.items (together four.results.counts own) milliseconds in
      let formed : three.report.state.form ≡ form = lost.form ∙ begun.form in
      let counted : five.results.counts ≡ four.results.counts = ap (λ (r : Results). r.counts) same in (
        begun_text form ++ (lost_text form found ++ (checked.text ++ last form nothing)),
        record {
          found = found;
          found_is = found_is;
          results = checked.results;
          shown = checked.text;
          checked = subst (λ (t : Totals). AreChecked asked form found.scripts.items t checked.results checked.text) (sym counted)
              (subst (λ (f : ReportForm). AreChecked asked f found.scripts.items four.results.counts checked.results checked.text) formed checked.said);
          counts_are = counted ∙ checked.counted ∙ ap (λ (t : Totals). counts_of t checked.results) counts ∙ counts_then nothing (lost_results found) checked.results;
          differing = four.results.differing.items;
          differing_are = λ memory. checked.lists (ended.out memory).memory ∙ ap (λ (l : List Differing). listing l ++ listed_in checked.results) none;
          milliseconds = milliseconds;
          text_is = ap (λ (t : Totals). begun_text form ++ (lost_text form found ++ (checked.text ++ last_text asked n form four.results.differing.items (together t nothing) milliseconds))) (sym counted);
        },
        goes_then (λ (f : ReportForm) (own : Totals). lost_text f found ++ (checked.text ++ last f own)) begun
            (goes_then (λ (f : ReportForm) (own : Totals). checked.text ++ last f own) lost (goes_then last checked.out ended)),
      )
