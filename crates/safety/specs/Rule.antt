-- The run rule: which run is shown. It stays in one column of the table. At each point it takes the first move that adds a
-- right: receivers by number, for each one its transforms before the grants to it, grants by the giver's number, then the
-- lowest right. It stops when the asked holding stands.
use Rattle.std.specs.Prelude.{ℕ, zero, suc, ◌*◌, Bool, true, false, cond, not, ◌&&◌, List, [], ◌∷◌, map, length, replicate, Some, None, Option, ◌==◌, nat_lt, slice_index, slice_index_or, slice_set}
use Rattle.rights.specs.Limits.{max_subjects, max_objects}
use Rattle.rights.specs.Firsts.{first, or_else}
use Rattle.rights.specs.Sets.{nothing, has, add}
use Rattle.books.specs.Meaning.{Meaning}
use Rattle.monitor.specs.declared.step.Step.{Step}
use Rattle.monitor.specs.declared.step.Step.TheVariants.{Create, Transform, Grant}
use Rattle.monitor.specs.States.{State, object, type_of}
use Rattle.safety.specs.declared.question.Move.{Move}
use Rattle.safety.specs.declared.question.Move.TheVariants.{Add, Give}
use Rattle.safety.specs.declared.question.Question.{Question}
use Rattle.safety.specs.declared.question.Question.TheVariants.{Can, CanNew}

-- a move as a step, for the object o
abbrev pub step_for : ℕ → Move → Step
step_for o (Add d r) = Transform d o r
step_for o (Give s d r) = Grant s d o r

-- who receives, and what
abbrev pub receiver : Move → ℕ
receiver (Add d r) = d
receiver (Give s d r) = d

abbrev pub right : Move → ℕ
right (Add d r) = r
right (Give s d r) = r

-- giver and receiver differ
abbrev pub apart : Move → Bool
apart (Add d r) = true
apart (Give s d r) = not (s == d)

-- the set held in a cell of a column
abbrev pub held : List ℕ → ℕ → ℕ
held cells s = slice_index_or cells s nothing

-- what the book lets the acting subject add or give, in a column of type t with these cells, among subjects of these types
abbrev pub allowance : Meaning → List ℕ → ℕ → List ℕ → Move → ℕ
allowance m types t cells (Add d r) = m.may_add (slice_index types d) t (held cells d)
allowance m types t cells (Give s d r) = m.may_give (slice_index types s) (slice_index types d) t (held cells s)

-- the move is allowed, and its right is new in the receiver's cell
abbrev pub adds : Meaning → List ℕ → ℕ → List ℕ → Move → Bool
adds m types t cells v = apart v && has (allowance m types t cells v) (right v) && not (has (held cells (receiver v)) (right v))

-- the column after the move
abbrev pub moved : List ℕ → Move → List ℕ
moved cells v = slice_set cells (receiver v) (add (held cells (receiver v)) (right v))

-- the move, if it adds a right
abbrev pub try : Meaning → List ℕ → ℕ → List ℕ → Move → Option Move
try m types t cells v = cond (adds m types t cells v) (Some v) None

-- the first move to this receiver that adds a right: its transforms before the grants
abbrev pub next_to : ℕ → Meaning → List ℕ → ℕ → List ℕ → ℕ → Option Move
next_to w m types t cells d =
    let grants = first (length types) (λ s. first w (λ r. try m types t cells (Give s d r))) in
    or_else (first w (λ r. try m types t cells (Add d r))) grants

-- the first move that adds a right
abbrev pub next : ℕ → Meaning → List ℕ → ℕ → List ℕ → Option Move
next w m types t cells = first (length types) (next_to w m types t cells)

abbrev pub before : {A : Type 0} → A → Option (List A) → Option (List A)
before x None = None
before x (Some xs) = Some (x ∷ xs)

abbrev pub stop_or_move : Bool → Option Move → (Move → Option (List Move)) → Option (List Move)
stop_or_move true v go = Some []
stop_or_move false None go = None
stop_or_move false (Some v) go = before v (go v)

-- The moves of the shown run in one column, for the question whether s can come to hold r: it stops when s holds r, and
-- there is none where no move is left that adds a right. Of fuel, the most moves, there is always enough: each move adds
-- one of the rights that are missing in the column.
unfoldable pub find : ℕ → Meaning → List ℕ → ℕ → ℕ → ℕ → ℕ → List ℕ → Option (List Move)
find w m types t s r zero cells = cond (has (held cells s) r) (Some []) None
find w m types t s r (suc fuel) cells =
    stop_or_move (has (held cells s) r) (next w m types t cells) (λ v. find w m types t s r fuel (moved cells v))

-- the most moves that a column can want
abbrev pub most_moves : ℕ → ℕ
most_moves w = max_subjects * w

abbrev pub as_steps : ℕ → Option (List Move) → Option (List Step)
as_steps o None = None
as_steps o (Some vs) = Some (map (step_for o) vs)

-- the shown run for the object o, of type t and with these cells
abbrev pub find_for : ℕ → Meaning → State → ℕ → ℕ → ℕ → ℕ → List ℕ → Option (List Step)
find_for w m S o t s r cells = as_steps o (find w m S.subjects t s r (most_moves w) cells)

-- the cells of a new object: empty but the creator's
abbrev pub fresh : ℕ → ℕ → ℕ → List ℕ
fresh k creator rights = slice_set (replicate k nothing) creator rights

-- the run that starts with a create by c, which gets this set or may not create
abbrev pub after_create : ℕ → Meaning → State → ℕ → ℕ → ℕ → ℕ → Option ℕ → Option (List Step)
after_create w m S c s t r None = None
after_create w m S c s t r (Some rights) =
    before (Create c t) (find_for w m S (length S.objects) t s r (fresh (length S.subjects) c rights))

-- the first creator whose new object serves
abbrev pub find_new : ℕ → Meaning → State → ℕ → ℕ → ℕ → Option (List Step)
find_new w m S s t r = first (length S.subjects) (λ c. after_create w m S c s t r (m.creation (type_of S c) t))

-- the shown run, if there is one; for a new object there has to be room for one more
abbrev pub shown : ℕ → Meaning → State → Question → Option (List Step)
shown w m S (Can s o r) = find_for w m S o (object S o).type s r (object S o).cells
shown w m S (CanNew s t r) = let run = find_new w m S s t r in cond (nat_lt (length S.objects) max_objects) run None
