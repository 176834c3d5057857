-- The words that are offered are those of the tables.
use Rattle.std.proofs.Common.{◌≡◌, ◌∙◌, ℕ, ◌+◌, ◌<◌, ◌≤◌, Bool, true, false, List, [], ◌∷◌, ◌++◌, length, drop, get_or, map, refl, ap, sym, append_assoc, append-nil}
use Rattle.std.proofs.lemmas.List.{drop_all, drop_more, map-append}
use Rattle.std.specs.Prelude.{Option, None, codes, filter, if◌then◌else◌}
use Rattle.std.specs.Str.{bytes_eq}
use Rattle.rb_lsp.proofs.PlaceLaws.{test_cases}
use Rattle.rb_directive.specs.declared.table.Row.{Row}
use Rattle.rb_directive.specs.declared.table.OptionRow.{OptionRow}
use Rattle.rb_directive.specs.Names.{argument_text, name_text}
use Rattle.rb_directive.specs.Table.{directives, options as table_options}
use Rattle.rb_report.specs.Manual.{Key, Page, keys, pages}
use Rattle.rb_report.specs.Choices.{choices_of}
use Rattle.rb_report.specs.Nearest.{keys_of}
use Rattle.rb_editor.specs.OfferLaws.{words}
use Rattle.rb_editor.specs.declared.offers.offer.OfferKind.{OfferKind}
use Rattle.rb_editor.specs.Offers.{PlainOffer, begins_with, chosen, fits, if_kept, key_offer, keyed, named, options, takes, values}
use Rattle.rb_editor.specs.Unfinished.{PlainWanted}

-- an offer with the line of help that was found
pub documented : (list next : List PlainOffer) (t : Bool) (kind : OfferKind) (word found line : List ℕ) → found ≡ line → next ≡ list ++ if_kept t (record { kind = kind; word = word; documentation = found })
    → next ≡ list ++ if_kept t (record { kind = kind; word = word; documentation = line })
documented list next t kind word found line is kept = kept ∙ ap (λ (d : List ℕ). list ++ if_kept t (record { kind = kind; word = word; documentation = d })) is

-- ---- a loop that keeps some

pub one_seen : {X Y Z : Type 0} (view : X → Y) (test : Y → Bool) (offer : Y → Z) (xs : List X) (i : ℕ) (d : X) (t : Bool) (list next : List Z) → i < length xs → t ≡ test (view (get_or xs i d))
    → next ≡ list ++ (if t then offer (view (get_or xs i d)) ∷ [] else []) → next ++ map offer (filter test (map view (drop (i + 1) xs))) ≡ list ++ map offer (filter test (map view (drop i xs)))
one_seen view test offer xs i d t list next within is next_is =
    let rest = map offer (filter test (map view (drop (i + 1) xs))) in
    let x = get_or xs i d in
    let step : map offer (filter test (map view (drop i xs))) ≡ map offer (filter test (view x ∷ map view (drop (i + 1) xs))) = ap (λ (l : List _). map offer (filter test (map view l))) (drop_more xs i d within) in
    test_cases t
    (λ yes. let passes : test (view x) ≡ true = sym is ∙ yes in
    let more : map offer (filter test (view x ∷ map view (drop (i + 1) xs))) ≡ offer (view x) ∷ rest = rw passes refl in
    let kept : next ≡ list ++ offer (view x) ∷ [] = next_is ∙ rw yes refl in
    ap (λ (l : List _). l ++ rest) kept ∙ append_assoc list (offer (view x) ∷ []) rest ∙ ap (λ (l : List _). list ++ l) (sym (step ∙ more)))
    (λ no. let fails : test (view x) ≡ false = sym is ∙ no in
    let more : map offer (filter test (view x ∷ map view (drop (i + 1) xs))) ≡ rest = rw fails refl in
    let kept : next ≡ list = next_is ∙ rw no (append-nil list) in
    ap (λ (l : List _). l ++ rest) kept ∙ ap (λ (l : List _). list ++ l) (sym (step ∙ more)))

pub none_left : {X Y Z : Type 0} (view : X → Y) (test : Y → Bool) (offer : Y → Z) (xs : List X) (i : ℕ) (list : List Z) → length xs ≤ i → list ++ map offer (filter test (map view (drop i xs))) ≡ list
none_left view test offer xs i list past = ap (λ (l : List _). list ++ map offer (filter test (map view l))) (drop_all i xs past) ∙ append-nil list

-- ---- names

named_words : (prefix : List ℕ) (ps : List Page) → words (named prefix ps) ≡ filter (begins_with prefix) (map (λ (p : Page). p.0) ps)
unfolding named
named_words prefix [] = refl
named_words prefix (p ∷ ps) =
    test_cases (begins_with prefix p.0)
    (λ yes. rw yes (ap (λ (l : List (List ℕ)). p.0 ∷ l) (named_words prefix ps)))
    (λ no. rw no (named_words prefix ps))

page_names : map (λ (p : Page). p.0) pages ≡ map (λ (row : Row). name_text row.name) directives
unfolding pages directives
page_names = refl

pub names_offered : (prefix : List ℕ) → words (named prefix pages) ≡ filter (begins_with prefix) (map (λ (row : Row). name_text row.name) directives)
names_offered prefix = named_words prefix pages ∙ ap (filter (begins_with prefix)) page_names

-- ---- keys

keyed_words : (name prefix : List ℕ) (ks : List Key) → words (keyed name prefix ks) ≡ filter (begins_with prefix) (keys_of name ks)
unfolding keyed
keyed_words name prefix [] = refl
keyed_words name prefix (k ∷ ks) =
    test_cases (bytes_eq k.0 name)
    (λ own. test_cases (begins_with prefix k.1)
    (λ yes. rw (own, yes) (ap (λ (l : List (List ℕ)). k.1 ∷ l) (keyed_words name prefix ks)))
    (λ no. rw (own, no) (keyed_words name prefix ks)))
    (λ other. rw other (keyed_words name prefix ks))

filter_last : (p : List ℕ → Bool) (ws : List (List ℕ)) (w : List ℕ) → filter p (ws ++ w ∷ []) ≡ filter p ws ++ filter p (w ∷ [])
filter_last p [] w = refl
filter_last p (v ∷ ws) w =
    test_cases (p v)
    (λ yes. rw yes (ap (λ (l : List (List ℕ)). v ∷ l) (filter_last p ws w)))
    (λ no. rw no (filter_last p ws w))

last_word : (t : Bool) (w : List ℕ) → words (if t then key_offer w ∷ [] else []) ≡ (if t then w ∷ [] else [])
last_word true w = refl
last_word false w = refl

manual_keys : keys ≡ map (λ (row : OptionRow). (name_text row.name, argument_text row.option)) table_options
unfolding keys table_options
manual_keys = refl

option_words : (name prefix : List ℕ) → words (options name prefix) ≡ filter (begins_with prefix) (keys_of name keys ++ codes "log-level" ∷ [])
unfolding options
option_words name prefix =
    let every = codes "log-level" in
    map-append (λ (o : PlainOffer). o.word) (keyed name prefix keys) (if begins_with prefix every then key_offer every ∷ [] else [])
    ∙ ap (λ (l : List (List ℕ)). l ++ words (if begins_with prefix every then key_offer every ∷ [] else [])) (keyed_words name prefix keys)
    ∙ ap (λ (l : List (List ℕ)). filter (begins_with prefix) (keys_of name keys) ++ l) (last_word (begins_with prefix every) every)
    ∙ sym (filter_last (begins_with prefix) (keys_of name keys) every)

pub keys_offered : (name prefix : List ℕ)
    → words (options name prefix) ≡ filter (begins_with prefix) (keys_of name (map (λ (row : OptionRow). (name_text row.name, argument_text row.option)) table_options) ++ codes "log-level" ∷ [])
keys_offered name prefix = option_words name prefix ∙ ap (λ (ks : List Key). filter (begins_with prefix) (keys_of name ks ++ codes "log-level" ∷ [])) manual_keys

-- ---- values

pub chosen_words : (w : PlainWanted) (line : Option (List ℕ)) (cs : List (List ℕ)) → words (chosen w line cs) ≡ filter (fits w) cs
unfolding chosen
chosen_words w line [] = refl
chosen_words w line (c ∷ cs) =
    test_cases (fits w c)
    (λ yes. rw yes (ap (λ (l : List (List ℕ)). c ∷ l) (chosen_words w line cs)))
    (λ no. rw no (chosen_words w line cs))

pub values_offered : (name : List ℕ) (w : PlainWanted) → takes name w.key ≡ true → words (values name w) ≡ filter (fits w) (choices_of w.key)
values_offered name w taken = rw taken (chosen_words w None (choices_of w.key))
