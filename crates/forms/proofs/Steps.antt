-- Steps of reading a form: its items, one by one, and a step that is denied, which denies the whole.
use Rattle.std.proofs.Common.{◌≡◌, ℕ, suc, ◌<◌, ◌≤◌, List, [], ◌∷◌, length, slice_index_or, map, drop, Some, None, Ok, Err, Option, Result, Vec, refl, sym, subst, ap, ◌∙◌, drop-cons, arith}
use Rattle.std.proofs.lemmas.List.{drop_all}
use Rattle.std.specs.Result.{MatchResult, IsOkAnd}
use Rattle.std.specs.declared.alloc.Global.{Global}
use Rattle.grammar.specs.Entries.{Item, word, list}
use Rattle.words.specs.declared.tree.Item as words
use Rattle.words.specs.declared.tree.Word.{Word}
use Rattle.words.specs.Tree.{item_of}
use Rattle.words.specs.Stops.{Denial}
use Rattle.words.specs.declared.stop.Failed.TheVariants.{Memory, Because}
use Rattle.meaning.specs.Forms.{Form, word_then, names_then, if_words, at_end}
use Rattle.forms.specs.declared.form.Form as program
use Rattle.forms.specs.Views.{name_at, names_at, form_at, as_word, as_names, TakenAs}

pub denied : {A B C D : Type 0} (view : A → B) (other : C → D) (due : Option B) (whole : Option D) (d : Denial) → TakenAs view due (Err d)
    → (due ≡ None → whole ≡ None) → TakenAs other whole (Err d)
denied view other due whole Memory h none = tt
denied view other due whole (Because e) h none = (none h.0, h.1)

word_found : (x : Item) (xs : List Item) (more : List ℕ → List Item → Option Form) (w : List ℕ) → as_word x ≡ Some w → word_then (x ∷ xs) more ≡ more w xs
word_found (word v) xs more w e = let same : v ≡ w = cc in ap (λ u. more u xs) same
word_found (list i) xs more w e = cc

word_missing : (x : Item) (xs : List Item) (more : List ℕ → List Item → Option Form) → as_word x ≡ None → word_then (x ∷ xs) more ≡ None
word_missing (word v) xs more e = cc
word_missing (list i) xs more e = refl

names_found : (x : Item) (xs : List Item) (more : List (List ℕ) → List Item → Option Form) (ws : List (List ℕ)) → as_names x ≡ Some ws
    → names_then (x ∷ xs) more ≡ more ws xs
names_found (word v) xs more ws e = cc
names_found (list i) xs more ws e = ap (λ o. if_words o (λ vs. more vs xs)) e

names_missing : (x : Item) (xs : List Item) (more : List (List ℕ) → List Item → Option Form) → as_names x ≡ None → names_then (x ∷ xs) more ≡ None
names_missing (word v) xs more e = refl
names_missing (list i) xs more e = ap (λ o. if_words o (λ vs. more vs xs)) e

-- The items after a head, from one on: it is read and the rest go on, or the form is denied at it.
module _ (line : List ℕ) (rest xs : List words.Item) (same : rest ≡ xs) (i : ℕ) (x : words.Item) (within : i < length xs) where
  abbrev from : ℕ → List Item
  from j = map (item_of line) (drop j rest)

  abbrev this : Item
  this = item_of line (slice_index_or xs i x)

  one_more : from i ≡ this ∷ from (suc i)
  one_more = rw same (ap (map (item_of line)) (drop-cons xs i x within))

  pub word_is : (more : List ℕ → List Item → Option Form) (n : List ℕ) → as_word this ≡ Some n → word_then (from i) more ≡ more n (from (suc i))
  word_is more n h = rw one_more (word_found this (from (suc i)) more n h)

  pub names_are : (more : List (List ℕ) → List Item → Option Form) (ns : List (List ℕ)) → as_names this ≡ Some ns → names_then (from i) more ≡ more ns (from (suc i))
  names_are more ns h = rw one_more (names_found this (from (suc i)) more ns h)

  pub word_is_none : (more : List ℕ → List Item → Option Form) → as_word this ≡ None → word_then (from i) more ≡ None
  word_is_none more none = rw one_more (word_missing this (from (suc i)) more none)

  pub word_next : (more : List ℕ → List Item → Option Form) (n : List ℕ) (d : Denial) → as_word this ≡ Some n
      → TakenAs (form_at line) (more n (from (suc i))) (Err d) → TakenAs (form_at line) (word_then (from i) more) (Err d)
  word_next more n d h t = subst (λ o. TakenAs (form_at line) o (Err d)) (sym (word_is more n h)) t

  pub names_next : (more : List (List ℕ) → List Item → Option Form) (ns : List (List ℕ)) (d : Denial) → as_names this ≡ Some ns
      → TakenAs (form_at line) (more ns (from (suc i))) (Err d) → TakenAs (form_at line) (names_then (from i) more) (Err d)
  names_next more ns d h t = subst (λ o. TakenAs (form_at line) o (Err d)) (sym (names_are more ns h)) t

  pub word_denied : (more : List ℕ → List Item → Option Form) (d : Denial) → TakenAs (name_at line) (as_word this) (Err d)
      → TakenAs (form_at line) (word_then (from i) more) (Err d)
  word_denied more d h = denied (name_at line) (form_at line) _ _ d h (word_is_none more)

  pub names_denied : (more : List (List ℕ) → List Item → Option Form) (d : Denial) → TakenAs (λ (ws : Vec Word Global). names_at line ws.items) (as_names this) (Err d)
      → TakenAs (form_at line) (names_then (from i) more) (Err d)
  names_denied more d h =
      denied (λ (ws : Vec Word Global). names_at line ws.items) (form_at line) _ _ d h (λ none. rw one_more (names_missing this (from (suc i)) more none))

-- no items follow the last
no_more : (line : List ℕ) (rest xs : List words.Item) → rest ≡ xs → (n : ℕ) → length xs ≤ n → map (item_of line) (drop n rest) ≡ []
no_more line rest xs same n long = rw same (ap (map (item_of line)) (drop_all n xs long))

pub ended : (line : List ℕ) (rest xs : List words.Item) → rest ≡ xs → (n : ℕ) → length xs ≤ n → (f : Form) → at_end f (map (item_of line) (drop n rest)) ≡ Some f
ended line rest xs same n long f = rw (no_more line rest xs same n long) refl

-- a form of one word alone
module _ (line : List ℕ) (rest xs : List words.Item) (same : rest ≡ xs) (x : words.Item) (one : length xs ≡ 1) (make : List ℕ → Form) where
  pub made : (r : Result Word Denial) → TakenAs (name_at line) (as_word (item_of line (slice_index_or xs 0 x))) r
      → TakenAs (λ w. make (name_at line w)) (word_then (map (item_of line) rest) (λ n. at_end (make n))) r
  made (Ok w) h = word_is line rest xs same 0 x (omega arith) (λ n. at_end (make n)) (name_at line w) h ∙ ended line rest xs same 1 (omega arith) (make (name_at line w))
  made (Err d) h = denied (name_at line) (λ w. make (name_at line w)) _ _ d h (λ none.
      word_is_none line rest xs same 0 x (omega arith) (λ n. at_end (make n)) none)

-- what was read, with one more wrapping
pub wrapped : (line : List ℕ) (due : Option Form) (make : List ℕ → Form) (wrap : Word → program.Form) (r : Result Word Denial) (s : Result program.Form Denial)
    → ((w : Word) → form_at line (wrap w) ≡ make (name_at line w)) → MatchResult r (λ w. IsOkAnd s (λ f. f ≡ wrap w)) (λ d. s ≡ Err d)
    → TakenAs (λ w. make (name_at line w)) due r → TakenAs (form_at line) due s
wrapped line due make wrap (Ok w) (Ok f) same m h = rw m (h ∙ ap (λ x. Some x) (sym (same w)))
wrapped line due make wrap (Ok w) (Err d) same m h = absurd m
wrapped line due make wrap (Err d) s same m h = rw m (denied (λ w. make (name_at line w)) (form_at line) due due d h (λ none. none))
