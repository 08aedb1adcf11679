-- What items stand for: one by one, none, with one more, and all from the left.
use Rattle.std.proofs.Common.{◌≡◌, ℕ, List, [], ◌∷◌, ◌++◌, map, Vec, sym, refl, ap, ◌∙◌, append_assoc, append-nil}
use Rattle.std.proofs.lemmas.List.{map_push}
use Rattle.std.proofs.lemmas.List.Sums.{fold_push}
use Rattle.std.specs.List.{fold}
use Rattle.std.specs.declared.alloc.Global.{Global}
use Rattle.grammar.specs.Entries as entries
use Rattle.grammar.specs.Entries.{entries}
use Rattle.grammar.specs.Items.{Items, empty}
use Rattle.words.specs.Tree.{part, shape, with_item, item_of, item_step}
use Rattle.words.specs.declared.tree.Word.{Word}
use Rattle.words.specs.declared.tree.Item.{Item}
use Rattle.words.specs.declared.tree.Item.TheOpen as layer
use Rattle.words.specs.declared.tree.Item.TheVariants as one
use Rattle.words.specs.declared.tree.Item.TheFolds.{fold-roll-Item}

pub item_of_word : (text : List ℕ) (w : Word) → item_of text (one.Word w) ≡ entries.word (part text w.from w.upto)
item_of_word text w = ap (item_of text) (sym (one.rolls-Word w)) ∙ fold-roll-Item entries.Item (item_step text) (layer.Word w)

pub item_of_list : (text : List ℕ) (v : Vec Item Global) → item_of text (one.List v) ≡ entries.list (shape text v.items)
item_of_list text v = ap (item_of text) (sym (one.rolls-List v)) ∙ fold-roll-Item entries.Item (item_step text) (layer.List v)

pub shape_push : (text : List ℕ) (xs : List Item) (x : Item) → shape text (xs ++ (x ∷ [])) ≡ with_item (shape text xs) (item_of text x)
shape_push text xs x =
    ap (fold with_item empty) (map_push (item_of text) xs x) ∙ fold_push with_item empty (map (item_of text) xs) (item_of text x)

one_more : (xs : Items) (y : entries.Item) → entries (with_item xs y) ≡ entries xs ++ (y ∷ [])
one_more xs (entries.word w) = refl
one_more xs (entries.list i) = refl

after : (xs : Items) (ys : List entries.Item) → entries (fold with_item xs ys) ≡ entries xs ++ ys
after xs [] = sym (append-nil (entries xs))
after xs (y ∷ ys) = after (with_item xs y) ys ∙ ap (λ l. l ++ ys) (one_more xs y) ∙ append_assoc (entries xs) (y ∷ []) ys

pub entries_shape : (text : List ℕ) (xs : List Item) → entries (shape text xs) ≡ map (item_of text) xs
entries_shape text xs = after empty (map (item_of text) xs)
