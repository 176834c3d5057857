-- Files that are written one chapter after another.
use Rattle.std.proofs.Common.{◌≡◌, ◌∙◌, ℕ, List, [], ◌∷◌, ◌++◌, Option, Some, None, slice_get, refl, ap, sym, subst, append_assoc, append-nil}
use Rattle.rb_book.specs.declared.chapter.Chapter.{Chapter}
use Rattle.rb_book.specs.Books.{AreChaptersOf}
use Rattle.rb_book.specs.Sites.{AddsFiles, SiteFile}

adds_none : (old : Option (List SiteFile)) → AddsFiles old old []
adds_none None = tt
adds_none (Some all) = sym (append-nil all)

pub adds_more : (a b c : Option (List SiteFile)) (xs ys : List SiteFile) → AddsFiles a b xs → AddsFiles b c ys → AddsFiles a c (xs ++ ys)
adds_more None b c xs ys first then = tt
adds_more (Some a) None c xs ys first then = absurd first
adds_more (Some a) (Some b) None xs ys first then = absurd then
adds_more (Some a) (Some b) (Some c) xs ys first then = then ∙ ap (λ (files : List SiteFile). files ++ ys) first ∙ append_assoc a xs ys

-- what the files of a chapter are, between the one before it and the one after it
abbrev pub ChapterFiles : Type 1
ChapterFiles = Option Chapter → Chapter → Option Chapter → List SiteFile → Type 0

-- the files of all chapters but the rest were written, of which `last` was the last one: with whichever files are those of the rest, they are those of all
pub record WrittenSoFar (is_chapter : ChapterFiles) (old now : Option (List SiteFile)) (all : List Chapter) (last : Option Chapter) (rest : List Chapter) : Type 0 where
  pub done : List SiteFile
  pub added : AddsFiles old now done
  pub goes_on : (files : List SiteFile) → AreChaptersOf is_chapter last rest files → AreChaptersOf is_chapter None all (done ++ files)

pub none_yet : (is_chapter : ChapterFiles) (old : Option (List SiteFile)) (all : List Chapter) → WrittenSoFar is_chapter old old all None all
none_yet is_chapter old all = record { done = []; added = adds_none old; goes_on = λ files are. are }

pub one_more : (is_chapter : ChapterFiles) (old before now : Option (List SiteFile)) (all : List Chapter) (last : Option Chapter) (chapter : Chapter) (rest : List Chapter)
    → (own : List SiteFile) → WrittenSoFar is_chapter old before all last (chapter ∷ rest) → is_chapter last chapter (slice_get rest 0) own → AddsFiles before now own
    → WrittenSoFar is_chapter old now all (Some chapter) rest
one_more is_chapter old before now all last chapter rest own so_far is added = record {
  done = so_far.done ++ own;
  added = adds_more old before now so_far.done own so_far.added added;
  goes_on = λ files are.
      subst (λ (fs : List SiteFile). AreChaptersOf is_chapter None all fs) (sym (append_assoc so_far.done own files)) (so_far.goes_on (own ++ files) (own, files, is, are, refl));
}

pub all_written : (is_chapter : ChapterFiles) (old now : Option (List SiteFile)) (all : List Chapter) (last : Option Chapter) → WrittenSoFar is_chapter old now all last []
    → (files : List SiteFile) × AreChaptersOf is_chapter None all files × AddsFiles old now files
all_written is_chapter old now all last so_far =
    (so_far.done ++ [], so_far.goes_on [] refl, subst (λ (fs : List SiteFile). AddsFiles old now fs) (sym (append-nil so_far.done)) so_far.added)

-- a text that grows by four parts
pub four_parts : (t a b c d t1 t2 t3 t4 : List ℕ) → t1 ≡ t ++ a → t2 ≡ t1 ++ b → t3 ≡ t2 ++ c → t4 ≡ t3 ++ d → t4 ≡ t ++ (a ++ (b ++ (c ++ d)))
four_parts t a b c d t1 t2 t3 t4 first second third fourth =
    let two : t2 ≡ t ++ (a ++ b) = second ∙ ap (λ (x : List ℕ). x ++ b) first ∙ append_assoc t a b in
    let more : t4 ≡ t2 ++ (c ++ d) = fourth ∙ ap (λ (x : List ℕ). x ++ d) third ∙ append_assoc t2 c d in
    more ∙ ap (λ (x : List ℕ). x ++ (c ++ d)) two ∙ append_assoc t (a ++ b) (c ++ d) ∙ ap (λ (x : List ℕ). t ++ x) (append_assoc a b (c ++ d))

-- what holds of some texts holds of equal ones
pub along_two : (P : List ℕ → List ℕ → Type 0) (a b x y : List ℕ) → a ≡ x → b ≡ y → P a b → P x y
along_two P a b x y first second p = subst (λ (t : List ℕ). P x t) second (subst (λ (t : List ℕ). P t b) first p)

pub along_four : (P : List ℕ → List ℕ → List ℕ → List ℕ → Type 0) (a b c d x y z w : List ℕ) → a ≡ x → b ≡ y → c ≡ z → d ≡ w → P a b c d → P x y z w
along_four P a b c d x y z w first second third fourth p =
    along_two (λ (s t : List ℕ). P x y s t) c d z w third fourth (along_two (λ (s t : List ℕ). P s t c d) a b x y first second p)
