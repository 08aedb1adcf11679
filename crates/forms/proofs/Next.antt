-- Words taken one by one, and a part of a line that is cut at the line's end.
use Rattle.std.proofs.Common.{◌≡◌, ℕ, suc, ◌+◌, ◌-◌, ◌<◌, ◌≤◌, min, List, [], ◌∷◌, ◌++◌, length, get_or, map, take, drop, Some, None, Option, Vec, sym, refl, ap, ◌∙◌, inl, inr, append_assoc, append-nil, add-one, arith, length-drop, drop-cons}
use Rattle.std.proofs.lemmas.List.{take_all, drop_all, map_push}
use Rattle.std.proofs.lemmas.Bool.{cases_lt}
use Rattle.std.specs.Option.{option_map}
use Rattle.std.specs.declared.alloc.Global.{Global}
use Rattle.grammar.specs.Entries as entries
use Rattle.grammar.specs.Entries.{entries}
use Rattle.words.specs.Tree.{shape, item_of}
use Rattle.words.specs.declared.tree.Word.{Word}
use Rattle.words.specs.declared.tree.Item.{Item}
use Rattle.words.specs.declared.tree.Item.TheVariants as one
use Rattle.words.proofs.Shapes.{item_of_list, entries_shape}
use Rattle.meaning.specs.Forms.{head_of, form_with, form_of, the_words}
use Rattle.forms.specs.Views.{name_at, names_at, as_word, as_names}

-- words before others
abbrev pub with_more : List (List ℕ) → Option (List (List ℕ)) → Option (List (List ℕ))
with_more ws o = option_map (λ more. ws ++ more) o

none_more : (o : Option (List (List ℕ))) → with_more [] o ≡ o
none_more None = refl
none_more (Some ws) = refl

one_more : (ws : List (List ℕ)) (w : List ℕ) (o : Option (List (List ℕ))) → with_more (ws ++ (w ∷ [])) o ≡ with_more ws (option_map (λ more. w ∷ more) o)
one_more ws w None = refl
one_more ws w (Some more) = ap Some (append_assoc ws (w ∷ []) more)

word_more : (y : entries.Item) (ys : List entries.Item) (w : List ℕ) → as_word y ≡ Some w → the_words (y ∷ ys) ≡ option_map (λ ws. w ∷ ws) (the_words ys)
word_more (entries.word v) ys w e = let same : v ≡ w = cc in ap (λ u. option_map (λ ws. u ∷ ws) (the_words ys)) same
word_more (entries.list i) ys w e = cc

no_word : (y : entries.Item) (ys : List entries.Item) → as_word y ≡ None → the_words (y ∷ ys) ≡ None
no_word (entries.word v) ys e = cc
no_word (entries.list i) ys e = refl

-- a list of items, as a list of words
pub names_of : (line : List ℕ) (x : Item) (v : Vec Item Global) (xs : List Item) → x ≡ one.List v → xs ≡ v.items
    → as_names (item_of line x) ≡ the_words (map (item_of line) xs)
names_of line x v xs e same =
    ap (λ y. as_names (item_of line y)) e ∙ ap as_names (item_of_list line v)
    ∙ ap the_words (entries_shape line v.items ∙ ap (map (item_of line)) (sym same))

module _ (line : List ℕ) (items : List Item) where
  abbrev pub WordsSoFar : List Word → ℕ → Type 0
  WordsSoFar ws i = with_more (names_at line ws) (the_words (map (item_of line) (drop i items))) ≡ the_words (map (item_of line) items)

  pub none_so_far : (ws : List Word) → ws ≡ [] → WordsSoFar ws 0
  none_so_far ws e = ap (λ l. with_more (names_at line l) (the_words (map (item_of line) items))) e ∙ none_more (the_words (map (item_of line) items))

  next_is : (i : ℕ) (x : Item) → i < length items → x ≡ get_or items i x
      → map (item_of line) (drop i items) ≡ item_of line x ∷ map (item_of line) (drop (i + 1) items)
  next_is i x h is = rw (add-one, drop-cons items i x h) (ap (λ z. item_of line z ∷ map (item_of line) (drop (suc i) items)) (sym is))

  pub word_stops : (ws : List Word) (i : ℕ) (x : Item) → i < length items → x ≡ get_or items i x → WordsSoFar ws i
      → as_word (item_of line x) ≡ None → the_words (map (item_of line) items) ≡ None
  word_stops ws i x h is so none =
      sym so ∙ ap (λ l. with_more (names_at line ws) (the_words l)) (next_is i x h is)
      ∙ ap (with_more (names_at line ws)) (no_word (item_of line x) (map (item_of line) (drop (i + 1) items)) none)

  pub one_more_word : (ws vs : List Word) (i : ℕ) (x : Item) (w : Word) → i < length items → x ≡ get_or items i x → WordsSoFar ws i
      → as_word (item_of line x) ≡ Some (name_at line w) → vs ≡ ws ++ (w ∷ []) → WordsSoFar vs (i + 1)
  one_more_word ws vs i x w h is so some pushed =
      let rest = map (item_of line) (drop (i + 1) items) in
      ap (λ l. with_more l (the_words rest)) (ap (names_at line) pushed ∙ map_push (name_at line) ws w)
      ∙ one_more (names_at line ws) (name_at line w) (the_words rest)
      ∙ ap (with_more (names_at line ws)) (sym (ap the_words (next_is i x h is) ∙ word_more (item_of line x) rest (name_at line w) some))
      ∙ so

  pub no_more_words : (ws : List Word) (i : ℕ) → length items ≤ i → WordsSoFar ws i → the_words (map (item_of line) items) ≡ Some (names_at line ws)
  no_more_words ws i h so =
      sym so ∙ ap (λ l. with_more (names_at line ws) (the_words (map (item_of line) l))) (drop_all i items h) ∙ ap Some (append-nil (names_at line ws))

-- the items of a line after the first
abbrev pub after_first : List ℕ → List Item → List entries.Item
after_first line items = map (item_of line) (take (length items - 1) (drop 1 items))

pub first_is : (line : List ℕ) (items : List Item) (x : Item) → 1 ≤ length items → x ≡ get_or items 0 x
    → entries (shape line items) ≡ item_of line x ∷ after_first line items
first_is line items x some is =
    let all = take_all (length items - 1) (drop 1 items) (simp length-drop (omega arith)) in
    entries_shape line items ∙ next_is line items 0 x some is ∙ ap (λ l. item_of line x ∷ map (item_of line) l) (sym all)

pub headless : (y : entries.Item) (ys : List entries.Item) → as_word y ≡ None → form_of (y ∷ ys) ≡ None
headless (entries.word w) ys e = cc
headless (entries.list i) ys e = refl

pub headed : (y : entries.Item) (ys : List entries.Item) (w : List ℕ) → as_word y ≡ Some w → form_of (y ∷ ys) ≡ form_with (head_of w) ys
headed (entries.word v) ys w e = let same : v ≡ w = cc in ap (λ u. form_with (head_of u) ys) same
headed (entries.list i) ys w e = cc

-- a part of a line that is cut at the line's end
module _ (line : List ℕ) where
  abbrev cut : ℕ → ℕ → List ℕ
  cut from upto = take (upto - from) (drop from line)

  empty_part : (from upto : ℕ) → upto ≤ from → cut from upto ≡ []
  empty_part from upto h = let z : upto - from ≡ 0 = omega arith in ap (λ n. take n (drop from line)) z

  to_end : (from upto : ℕ) → length line ≤ upto → cut from upto ≡ drop from line
  to_end from upto h = take_all (upto - from) (drop from line) (simp length-drop (omega arith))

  past_end : (from upto : ℕ) → length line ≤ from → cut from upto ≡ []
  past_end from upto h = elim (cases_lt upto (length line)) [
    | inl less ↦ empty_part from upto (omega arith)
    | inr more ↦ to_end from upto more ∙ drop_all from line h
  ]

  pub clamped : (from upto a b : ℕ) → b ≡ min upto (length line) → a ≡ min from b → cut a b ≡ cut from upto
  clamped from upto a b p q =
      elim (cases_lt upto from) [
        | inl back ↦ let same : b ≤ a = omega arith in elim (cases_lt upto (length line)) [
          | inl inside ↦ empty_part a b same ∙ sym (empty_part from upto (omega arith))
          | inr outside ↦ empty_part a b same ∙ sym (past_end from upto (omega arith))
        ]
        | inr on ↦ elim (cases_lt (length line) from) [
          | inl past ↦ let same : b ≤ a = omega arith in empty_part a b same ∙ sym (past_end from upto (omega arith))
          | inr within ↦ let here : a ≡ from = omega arith in elim (cases_lt upto (length line)) [
            | inl inside ↦ let there : b ≡ upto = omega arith in ap (λ n. cut n b) here ∙ ap (cut from) there
            | inr outside ↦ let far : length line ≤ b = omega arith in ap (λ n. cut n b) here ∙ to_end from b far ∙ sym (to_end from upto outside)
          ]
        ]
      ]
