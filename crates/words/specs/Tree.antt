-- What the program's values stand for, and what the parts of the reader say of a text.
use Rattle.std.specs.Prelude.{◌≡◌, ℕ, suc, ◌+◌, ◌<◌, ◌≤◌, List, [], ◌∷◌, ◌++◌, length, drop, map, ◌≢◌, slice_index, slice_range, Ok, Err, Vec, Result, MatchResult}
use Rattle.rights.specs.declared.refusal.Refusal.TheVariants.{LineBroken}
use Rattle.std.specs.List.{fold}
use Rattle.std.specs.declared.alloc.Global.{Global}
use Rattle.grammar.specs.Bytes.{word_byte, class}
use Rattle.grammar.specs.Items as items
use Rattle.grammar.specs.Entries as entries
use Rattle.grammar.specs.Reader.{State, list_opened, word_begun, letters, stop, close, step, Reading, formed, not_read, read_from, read, rests, ready}
use Rattle.grammar.specs.Claims.{RefusedAt}
use Rattle.words.specs.declared.tree.Item.{Item}
use Rattle.words.specs.declared.tree.Item.TheOpen.{Item-F}
use Rattle.words.specs.declared.tree.Item.TheOpen as one
use Rattle.words.specs.declared.tree.Item.TheFolds.{fold-Item}
use Rattle.words.specs.Stops.{Stop, stopped}
use Rattle.words.specs.declared.stop.Failed.TheVariants.{Memory, Because}

-- the bytes of a text from one place up to another
abbrev pub part : List ℕ → ℕ → ℕ → List ℕ
part text from upto = slice_range text from upto

-- some items and then one more
abbrev pub with_item : items.Items → entries.Item → items.Items
with_item xs (entries.word w) = items.with_word xs w
with_item xs (entries.list i) = items.with_list xs i

-- the items of a list, from the left
abbrev pub gathered : List entries.Item → items.Items
gathered ys = fold with_item items.empty ys

-- one item, with what each item of a list in it stands for in its place
abbrev pub item_step : List ℕ → Item-F entries.Item → entries.Item
item_step text (one.Word w) = entries.word (part text w.from w.upto)
item_step text (one.List v) = entries.list (gathered v.items)

abbrev pub item_of : List ℕ → Item → entries.Item
item_of text = fold-Item entries.Item (item_step text)

-- the items of a list
abbrev pub shape : List ℕ → List Item → items.Items
shape text xs = gathered (map (item_of text) xs)

-- the reading that goes on at a place of the text
abbrev pub reading : List ℕ → State → ℕ → Reading
reading text s at = read_from s at (drop at text)

-- the refusal is what the reading comes to
abbrev pub Refuses : Stop → Reading → Type 0
Refuses Memory r = Unit {0}
Refuses (Because a) r = r ≡ not_read a.refusal a.place

-- the byte that stands at a place; where the text ends, a line is broken
abbrev pub ByteThere : List ℕ → ℕ → Result ℕ Stop → Type 0
ByteThere text at (Ok b) = (at < length text) × (b ≡ slice_index text at)
ByteThere text at (Err e) = (length text ≤ at) × (e ≡ stopped LineBroken at)

-- A word that begins at `at` ends at `end`: the reading goes on there, with no word byte next.
pub record WordEnds (text : List ℕ) (at end : ℕ) : Type 0 where
  pub later : at < end
  pub within : end ≤ length text
  pub leads : (xs : items.Items) (outer : List items.Items)
      → reading text (word_begun xs outer (slice_index text at ∷ [])) (at + 1) ≡ reading text (word_begun xs outer (part text at end)) end
  pub settled : end < length text → class (slice_index text end) ≢ word_byte

-- An item, after the items xs of a list: with it they are ys, and the reading goes on at `end`, where no word byte can follow.
pub record ItemRead (text : List ℕ) (at lists : ℕ) (xs ys : items.Items) (end : ℕ) : Type 0 where
  pub later : at < end
  pub within : end ≤ length text
  pub some : ys ≡ items.empty → ⊥
  pub leads : (outer : List items.Items) → suc (length outer) ≡ lists → reading text (ready xs outer) at ≡ reading text (rests ys outer) end
  pub settled : (outer : List items.Items) → end < length text → class (slice_index text end) ≡ word_byte
      → (step (rests ys outer) word_byte (slice_index text end) ≡ stop) × (letters (rests ys outer) ≡ 0)

-- The items of a list, up to behind its closing bracket.
pub record ListRead (text : List ℕ) (at lists : ℕ) (xs : items.Items) (end : ℕ) : Type 0 where
  pub later : at < end
  pub within : end ≤ length text
  pub leads : (outer : List items.Items) → suc (length outer) ≡ lists → reading text (list_opened outer) at ≡ reading text (close xs outer) end

-- A line, up to behind its line end.
pub record LineRead (text : List ℕ) (F : items.Items) (end : ℕ) : Type 0 where
  pub within : end ≤ length text
  pub some : 0 < end
  pub formed : read text ≡ formed F (drop end text)

-- Refusals, each of what the reading comes to from there.
abbrev pub WordRefused : List ℕ → ℕ → Stop → Type 0
WordRefused text at e =
    (xs : items.Items) (outer : List items.Items) → Refuses e (reading text (word_begun xs outer (slice_index text at ∷ [])) (at + 1))

abbrev pub ItemRefused : List ℕ → ℕ → ℕ → items.Items → Stop → Type 0
ItemRefused text at lists xs e = (outer : List items.Items) → suc (length outer) ≡ lists → Refuses e (reading text (ready xs outer) at)

abbrev pub ListRefused : List ℕ → ℕ → ℕ → Stop → Type 0
ListRefused text at lists e = (outer : List items.Items) → suc (length outer) ≡ lists → Refuses e (reading text (list_opened outer) at)

-- no closing bracket stands where the first item of a list is read
abbrev pub ItemDue : List ℕ → ℕ → items.Items → Type 0
ItemDue text at xs = xs ≡ items.empty → slice_index text at ≢ 41

-- what is answered of an item, whatever items stand before it in its list, and of the items of a list
abbrev pub ItemAnswered : List ℕ → ℕ → ℕ → Result (Item × ℕ) Stop → Type 0
ItemAnswered text at lists r =
    (xs : items.Items) → ItemDue text at xs
    → MatchResult r (λ p. ItemRead text at lists xs (with_item xs (item_of text p.0)) p.1) (ItemRefused text at lists xs)

abbrev pub ListAnswered : List ℕ → ℕ → ℕ → Result (Vec Item Global × ℕ) Stop → Type 0
ListAnswered text at lists r = MatchResult r (λ p. ListRead text at lists (shape text p.0.items) p.1) (ListRefused text at lists)

-- What a line of a text means, without the reader.
pub record LineStands (text : List ℕ) (F : items.Items) (end : ℕ) : Type 0 where
  pub within : end ≤ length text
  pub good : items.GoodForm F
  pub whole : text ≡ items.render F ++ (10 ∷ drop end text)

abbrev pub LineFails : List ℕ → Stop → Type 0
LineFails text Memory = Unit {0}
LineFails text (Because a) = RefusedAt text a.refusal a.place
