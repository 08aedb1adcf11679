-- What an answer is worth: the law of the questions, in the words of the model.
use Rattle.std.specs.Prelude.{◌≡◌, ℕ, ◌<◌, false, ◌||◌, T, ◌⊎◌, List, [], ◌∷◌, map, length, take, drop, is_ok, Some, None, ◌==◌, ◌≢◌}
use Rattle.rights.specs.Limits.{max_objects}
use Rattle.rights.specs.Sets.{has}
use Rattle.books.specs.Meaning.{Meaning, Lawful}
use Rattle.monitor.specs.declared.step.Step.{Step}
use Rattle.monitor.specs.declared.step.Step.TheVariants.{Create, Transform, Grant, Revoke}
use Rattle.monitor.specs.States.{State, object, type_of, cell, WellFormed}
use Rattle.monitor.specs.Machine.{perform}
use Rattle.monitor.specs.Laws.{SameBut}
use Rattle.safety.specs.declared.question.Move.{Move}
use Rattle.safety.specs.declared.question.Move.TheVariants.{Add, Give}
use Rattle.safety.specs.declared.question.Question.{Question}
use Rattle.safety.specs.declared.question.Question.TheVariants.{Can, CanNew}
use Rattle.safety.specs.declared.question.Call.{Call}
use Rattle.safety.specs.declared.question.Call.TheVariants.{Act, Ask}
use Rattle.safety.specs.declared.question.Reply.{Reply}
use Rattle.safety.specs.declared.question.Reply.TheVariants as reply
use Rattle.safety.specs.Runs.{after, after_calls, Attained}
use Rattle.safety.specs.Rule.{step_for, held, adds, moved, fresh, after_create, shown}
use Rattle.safety.specs.Questions.{asked}

-- no list of steps, refused ones among them, ends with the asked holding
abbrev pub NoList : ℕ → Meaning → State → Question → Type 0
NoList w m S q = (xs : List Step) → Attained S q (after w m S xs) → ⊥

-- d holds r for o, which it did not before, and nothing else has changed
pub record OneMore (S : State) (d o r : ℕ) (New : State) : Type 0 where
  pub lacked : has (cell S d o) r ≡ false
  pub in_cell : (q : ℕ) → has (cell New d o) q ≡ (has (cell S d o) q || q == r)
  pub rest : SameBut S d o New

-- A transform or grant adds just one holding. There is no revoke in a shown run.
abbrev pub Grows : State → Step → State → Type 0
Grows S (Create s t) New = Unit {0}
Grows S (Transform s o r) New = OneMore S s o r New
Grows S (Grant s d o r) New = OneMore S d o r New
Grows S (Revoke s d o r) New = ⊥

-- each step of the run is accepted, and adds what it should
abbrev pub EachWorks : ℕ → Meaning → State → List Step → Type 0
EachWorks w m S [] = Unit {0}
EachWorks w m S (x ∷ xs) =
    T (is_ok (perform w m S x).1) × Grows S x (perform w m S x).0 × EachWorks w m (perform w m S x).0 xs

-- A can with count n, put with this list, which is new_list now: the run stands in the first n places and the rest is as it
-- was; it is the run that the run rule fixes; each step works; it ends with the asked holding.
pub record Shows (w : ℕ) (m : Meaning) (S : State) (q : Question) (list : List Step) (n : ℕ) (new_list : List Step) : Type 0 where
  pub count : length (take n new_list) ≡ n
  pub rest : drop n new_list ≡ drop n list
  pub places : length new_list ≡ length list
  pub ruled : shown w m S q ≡ Some (take n new_list)
  pub works : EachWorks w m S (take n new_list)
  pub attains : Attained S q (after w m S (take n new_list))

-- The law of one question, put to the table S with this list, and of its reply and its list afterwards.
pub record Judged (w : ℕ) (m : Meaning) (S : State) (q : Question) (list : List Step) (new_list : List Step) (answer : Reply) : Type 0 where
  -- never: no list of steps ends with the asked holding, and the run list is as it was
  pub never_right : answer ≡ reply.Never → NoList w m S q
  pub never_list : answer ≡ reply.Never → new_list ≡ list
  -- where no list of steps does, and the question is answered, the answer is never
  pub never_told : (answer ≡ reply.Never) ⊎ ((n : ℕ) × (answer ≡ reply.Can n)) → NoList w m S q → answer ≡ reply.Never
  -- can: the shown run works
  pub can_right : (n : ℕ) → answer ≡ reply.Can n → Shows w m S q list n new_list
  -- once never, never can: after any list of calls, with any run list
  pub never_lasts : answer ≡ reply.Never → (calls : List Call) (other : List Step) (n : ℕ)
      → (asked w m (after_calls w m S calls) q other).1 ≢ reply.Can n

-- The law over whole lists of calls: after any calls, each working on the table that the earlier ones left, every question
-- with every run list is judged so.
abbrev pub ListsJudged : ℕ → Meaning → State → Type 0
ListsJudged w m S =
    (calls : List Call) (q : Question) (list : List Step)
    → Judged w m (after_calls w m S calls) q list (asked w m (after_calls w m S calls) q list).0 (asked w m (after_calls w m S calls) q list).1

-- under every lawful book, from every table
abbrev pub QuestionsJudged : Type 0
QuestionsJudged = (w : ℕ) (m : Meaning) → Lawful m → (S : State) → WellFormed S → ListsJudged w m S

-- The order of moves: receivers by number, for each one its transforms before the grants to it, grants by the giver's
-- number, then rights by number.
abbrev pub Earlier : Move → Move → Type 0
Earlier (Add d r) (Add e q) = (d < e) ⊎ ((d ≡ e) × (r < q))
Earlier (Add d r) (Give u e q) = (d < e) ⊎ (d ≡ e)
Earlier (Give s d r) (Add e q) = d < e
Earlier (Give s d r) (Give u e q) = (d < e) ⊎ ((d ≡ e) × ((s < u) ⊎ ((s ≡ u) × (r < q))))

-- the move's numbers are those of subjects and rights
abbrev pub Inside : ℕ → List ℕ → Move → Type 0
Inside w types (Add d r) = (d < length types) × (r < w)
Inside w types (Give s d r) = (s < length types) × (d < length types) × (r < w)

-- of all moves that add a right in this column, the earliest
pub record Earliest (w : ℕ) (m : Meaning) (types : List ℕ) (t : ℕ) (cells : List ℕ) (v : Move) : Type 0 where
  pub inside : Inside w types v
  pub adds_right : T (adds m types t cells v)
  pub first_of : (u : Move) → Inside w types u → T (adds m types t cells u) → (u ≡ v) ⊎ Earlier v u

-- the run goes on exactly until s holds r, by the earliest move each time
abbrev pub FollowsRule : ℕ → Meaning → List ℕ → ℕ → ℕ → ℕ → List ℕ → List Move → Type 0
FollowsRule w m types t s r cells [] = T (has (held cells s) r)
FollowsRule w m types t s r cells (v ∷ vs) =
    (T (has (held cells s) r) → ⊥) × Earliest w m types t cells v × FollowsRule w m types t s r (moved cells v) vs

-- A shown run, in the words of its rule. For a new object there is room, and the run starts with the create of the first
-- creator that has one.
abbrev pub Ruled : ℕ → Meaning → State → Question → List Step → Type 0
Ruled w m S (Can s o r) run =
    (vs : List Move) × (run ≡ map (step_for o) vs) × FollowsRule w m S.subjects (object S o).type s r (object S o).cells vs
Ruled w m S (CanNew s t r) run =
    (c : ℕ) × (rights : ℕ) × (vs : List Move)
    × (run ≡ Create c t ∷ map (step_for (length S.objects)) vs) × (m.creation (type_of S c) t ≡ Some rights)
    × FollowsRule w m S.subjects t s r (fresh (length S.subjects) c rights) vs
    × ((e : ℕ) → e < c → after_create w m S e s t r (m.creation (type_of S e) t) ≡ None)
    × (c < length S.subjects) × (length S.objects < max_objects)

abbrev pub RuleFollowed : Type 0
RuleFollowed = (w : ℕ) (m : Meaning) (S : State) (q : Question) (run : List Step) → shown w m S q ≡ Some run → Ruled w m S q run

-- The law of any call, put to the table S with this list, and of the table, the list and the reply afterwards: a step leaves
-- the list, and a question leaves the table and is judged.
abbrev pub CallJudged : ℕ → Meaning → State → Call → List Step → State → List Step → Reply → Type 0
CallJudged w m S (Act x) list New new_list answer = new_list ≡ list
CallJudged w m S (Ask q) list New new_list answer = (New ≡ S) × Judged w m S q list new_list answer
