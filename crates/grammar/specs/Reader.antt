-- The reader of a line, byte by byte: what was read so far, which bytes may come then, and why any other is refused.
use Rattle.std.specs.Prelude.{ℕ, suc, cond, List, [], ◌∷◌, ◌++◌, length, ◌==◌, nat_lt}
use Rattle.grammar.specs.Bytes.{Class, word_byte, opening, closing, space, line_end, bad, class}
use Rattle.grammar.specs.Items.{Items, empty, with_word, with_list}
use Rattle.grammar.specs.Limits.{max_word, max_depth}
use Rattle.rights.specs.declared.refusal.Refusal.{Refusal}
use Rattle.rights.specs.declared.refusal.Refusal.TheVariants.{BadByte, LineBroken, TooDeep, WordTooLong}

-- What was read. `outer` has the items so far of the open lists around the innermost, from the inside out.
pub data State : Type 0 where
  start : State
  -- list_opened outer
  list_opened : List Items → State
  -- word_begun items outer w: in the word w, which follows the items
  word_begun : Items → List Items → List ℕ → State
  -- space_read items outer
  space_read : Items → List Items → State
  -- list_closed items i outer: the list i, which follows the items, was closed
  list_closed : Items → Items → List Items → State
  -- the form was closed
  form_closed : Items → State

-- how many lists are open
abbrev pub lists : State → ℕ
lists start = 0
lists (list_opened outer) = suc (length outer)
lists (word_begun items outer w) = suc (length outer)
lists (space_read items outer) = suc (length outer)
lists (list_closed items i outer) = suc (length outer)
lists (form_closed F) = 0

-- how many bytes of a word stand just before
abbrev pub letters : State → ℕ
letters start = 0
letters (list_opened outer) = 0
letters (word_begun items outer w) = length w
letters (space_read items outer) = 0
letters (list_closed items i outer) = 0
letters (form_closed F) = 0

-- Why a byte is refused, by its class, with so many lists open and so many bytes of a word just before.
abbrev pub reason : Class → ℕ → ℕ → Refusal
reason bad d k = BadByte
reason opening d k = cond (d == max_depth) TooDeep LineBroken
reason word_byte d k = cond (k == max_word) WordTooLong LineBroken
reason closing d k = LineBroken
reason space d k = LineBroken
reason line_end d k = LineBroken

pub data Step : Type 0 where
  go : State → Step
  done : Items → Step
  stop : Step

abbrev pub close : Items → List Items → State
close i [] = form_closed i
close i (o ∷ outer) = list_closed o i outer

abbrev pub nest : Items → List Items → Step
nest items outer = cond (nat_lt (suc (length outer)) max_depth) (go (list_opened (items ∷ outer))) stop

abbrev pub extend : Items → List Items → List ℕ → ℕ → Step
extend items outer w b = cond (nat_lt (length w) max_word) (go (word_begun items outer (w ++ (b ∷ [])))) stop

abbrev pub step : State → Class → ℕ → Step
step start opening b = go (list_opened [])
step start closing b = stop
step start word_byte b = stop
step start space b = stop
step start line_end b = stop
step start bad b = stop
step (list_opened outer) opening b = nest empty outer
step (list_opened outer) closing b = go (close empty outer)
step (list_opened outer) word_byte b = go (word_begun empty outer (b ∷ []))
step (list_opened outer) space b = stop
step (list_opened outer) line_end b = stop
step (list_opened outer) bad b = stop
step (word_begun items outer w) opening b = stop
step (word_begun items outer w) closing b = go (close (with_word items w) outer)
step (word_begun items outer w) word_byte b = extend items outer w b
step (word_begun items outer w) space b = go (space_read (with_word items w) outer)
step (word_begun items outer w) line_end b = stop
step (word_begun items outer w) bad b = stop
step (space_read items outer) opening b = nest items outer
step (space_read items outer) closing b = stop
step (space_read items outer) word_byte b = go (word_begun items outer (b ∷ []))
step (space_read items outer) space b = stop
step (space_read items outer) line_end b = stop
step (space_read items outer) bad b = stop
step (list_closed items i outer) opening b = stop
step (list_closed items i outer) closing b = go (close (with_list items i) outer)
step (list_closed items i outer) word_byte b = stop
step (list_closed items i outer) space b = go (space_read (with_list items i) outer)
step (list_closed items i outer) line_end b = stop
step (list_closed items i outer) bad b = stop
step (form_closed F) opening b = stop
step (form_closed F) closing b = stop
step (form_closed F) word_byte b = stop
step (form_closed F) space b = stop
step (form_closed F) line_end b = done F
step (form_closed F) bad b = stop

pub data Reading : Type 0 where
  -- formed F rest: a line with the form F, and what follows its line end
  formed : Items → List ℕ → Reading
  -- not_read why k: refused at the offset k
  not_read : Refusal → ℕ → Reading

abbrev pub read_on : Step → Refusal → ℕ → List ℕ → (State → Reading) → Reading
read_on (go t) why at rest more = more t
read_on (done F) why at rest more = formed F rest
read_on stop why at rest more = not_read why at

abbrev pub read_from : State → ℕ → List ℕ → Reading
read_from s at [] = not_read LineBroken at
read_from s at (b ∷ bs) =
    read_on (step s (class b) b) (reason (class b) (lists s) (letters s)) at bs (λ t. read_from t (suc at) bs)

-- the first line of a text
abbrev pub read : List ℕ → Reading
read text = read_from start 0 text

-- the state after some items of a list, and the state at which one more can begin
abbrev pub rests : Items → List Items → State
rests empty outer = list_opened outer
rests (with_word xs w) outer = word_begun xs outer w
rests (with_list xs i) outer = list_closed xs i outer

abbrev pub ready : Items → List Items → State
ready empty outer = list_opened outer
ready (with_word xs w) outer = space_read (with_word xs w) outer
ready (with_list xs i) outer = space_read (with_list xs i) outer
