-- The nested loops of the search against the run rule: what is passed adds nothing, and what is found is the first.
use Rattle.std.proofs.Common.{◌≡◌, ℕ, ◌+◌, ◌<◌, ◌≤◌, Bool, true, false, cond, not, ◌&&◌, eqb, List, length, get_or, take, Some, None, Option, sym, refl, ap, ◌∙◌, subst, ⊎_elim, arith}
use Rattle.std.proofs.lemmas.Bool.{cases_eq, ne_eqb, eq-eqb}
use Rattle.std.proofs.lemmas.List.{get_or-take, get_or_read}
use Rattle.rights.specs.Firsts.{first, or_else}
use Rattle.rights.specs.Sets.{has, inside, remove, lowest_right, leave_out}
use Rattle.rights.proofs.Found.{first_is, first_is_none}
use Rattle.rights.proofs.SetLaws.{removed, remove_only, inside_within}
use Rattle.rights.proofs.Truth.{true_T, T_true}
use Rattle.books.specs.Meaning.{Meaning}
use Rattle.monitor.specs.Columns.{Cells}
use Rattle.monitor.specs.declared.column.Column.TheInside.{Inside}
use Rattle.safety.specs.declared.question.Move.{Move}
use Rattle.safety.specs.declared.question.Move.TheVariants.{Add, Give}
use Rattle.safety.specs.Rule.{held, try, next_to, next}
use Rattle.safety.proofs.Splits.{Split, first_split}

-- what a column is seen as
abbrev pub seen : Inside → Cells
seen c = record { kind = c.kind; cells = c.cells }

-- f gives nothing below i
abbrev pub Clear : {A : Type 0} → (ℕ → Option A) → ℕ → Type 0
Clear f i = (j : ℕ) → j < i → f j ≡ None

pub clear_more : {A : Type 0} (f : ℕ → Option A) (i : ℕ) → Clear f i → f i ≡ None → Clear f (i + 1)
clear_more f i clear here j l =
    ⊎_elim (λ e. ap f e ∙ here) (λ ne. clear j (omega arith)) (cases_eq j i)

pub clear_none : {A : Type 0} (f : ℕ → Option A) → Clear f 0
clear_none f j l = absurd (omega arith)

pub clear_to : {A : Type 0} (f : ℕ → Option A) (i k : ℕ) → k ≤ i → Clear f i → Clear f k
clear_to f i k l clear j lj = clear j (omega arith)

-- the lowest right of a set, where there is one: it is in the set, and none below it is
module _ (w rights : ℕ) where
  abbrev Lowest : ℕ → Type 0
  Lowest r = (r < w) × (has rights r ≡ true) × ((q : ℕ) → q < r → has rights q ≡ false)

  abbrev NoneIn : Type 0
  NoneIn = (q : ℕ) → q < w → has rights q ≡ false

  lowest_split : Split (lowest_right w rights) NoneIn Lowest
  lowest_split = first_split w _ (λ q. has rights q ≡ false) Lowest (λ r l lower. at r l lower (has rights r) refl) where
    at : (r : ℕ) → r < w → ((q : ℕ) → q < r → has rights q ≡ false) → (b : Bool) → has rights r ≡ b
        → Split (cond b (Some r) None) (has rights r ≡ false) Lowest
    at r l lower true e = (l, e, lower)
    at r l lower false e = e

  none_in : None ≡ lowest_right w rights → NoneIn
  none_in e = subst (λ o. Split o NoneIn Lowest) (sym e) lowest_split

  lowest_is : (r : ℕ) → Some r ≡ lowest_right w rights → Lowest r
  lowest_is r e = subst (λ o. Split o NoneIn Lowest) (sym e) lowest_split

-- the move with this right, if it is allowed and new to what is held
abbrev pub offer : ℕ → ℕ → (ℕ → Move) → ℕ → Option Move
offer allowed held v r = cond (has allowed r && not (has held r)) (Some (v r)) None

-- Of the allowed rights these are left to look at: no other is new.
pub record Left (allowed held : ℕ) (v : ℕ → Move) (rest : ℕ) : Type 0 where
  pub inside : (q : ℕ) → has rest q ≡ true → has allowed q ≡ true
  pub gone : (q : ℕ) → has rest q ≡ false → offer allowed held v q ≡ None

still : (rest q r : ℕ) → eqb q r ≡ false → has (remove rest r) q ≡ has rest q
still rest q r apart = removed rest r q ∙ ap (λ b. has rest q && not b) apart ∙ and_true (has rest q) where
  and_true : (b : Bool) → (b && true) ≡ b
  and_true true = refl
  and_true false = refl

module _ (allowed held : ℕ) (v : ℕ → Move) where
  refused : (r : ℕ) → has allowed r ≡ false → offer allowed held v r ≡ None
  refused r e = ap (λ b. cond (b && not (has held r)) (Some (v r)) None) e

  stale : (r : ℕ) → has held r ≡ true → offer allowed held v r ≡ None
  stale r e = ap (λ b. cond (has allowed r && not b) (Some (v r)) None) e ∙ at (has allowed r) where
    at : (b : Bool) → cond (b && false) (Some (v r)) None ≡ None
    at true = refl
    at false = refl

  fresh : (r : ℕ) → has allowed r ≡ true → has held r ≡ false → offer allowed held v r ≡ Some (v r)
  fresh r e f = (λ k. cond (e k && not (f k)) (Some (v r)) None)

  -- nothing allowed is new
  pub none_new : (w : ℕ) → true ≡ inside allowed held → first w (offer allowed held v) ≡ None
  none_new w within = first_is_none w (offer allowed held v) (λ r l. at r (has allowed r) refl) where
    at : (r : ℕ) (b : Bool) → has allowed r ≡ b → offer allowed held v r ≡ None
    at r true e = stale r (true_T (has held r) (inside_within allowed held (T_true (sym within)) r (T_true e)))
    at r false e = refused r e

  pub left_all : Left allowed held v allowed
  left_all = record { inside = λ q t. t; gone = refused }

  module _ (w rest : ℕ) (left : Left allowed held v rest) where
    pub left_none : None ≡ lowest_right w rest → first w (offer allowed held v) ≡ None
    left_none none = first_is_none w (offer allowed held v) (λ q l. left.gone q (none_in w rest none q l))

    pub left_more : (r next : ℕ) → Some r ≡ lowest_right w rest → next ≡ leave_out rest (lowest_right w rest)
        → true ≡ has held r → Left allowed held v next
    left_more r next lowest is here =
        subst (Left allowed held v) (sym (is ∙ ap (leave_out rest) (sym lowest)))
        (record {
          inside = λ q e. left.inside q (true_T (has rest q) (remove_only rest r q (T_true e)));
          gone = λ q e. ⊎_elim (λ same. ap (offer allowed held v) same ∙ stale r (sym here)) (λ ne. left.gone q (sym
              (still rest q r (ne_eqb q r ne)) ∙ e)) (cases_eq q r);
        })

    pub left_found : (r : ℕ) → Some r ≡ lowest_right w rest → false ≡ has held r → first w (offer allowed held v) ≡ Some (v r)
    left_found r lowest here =
        let found = lowest_is w rest r lowest in
        first_is w (offer allowed held v) r (v r) found.0 (fresh r (left.inside r found.1) (sym here)) (λ q l.
        left.gone q (found.2 q l))

module _ (w : ℕ) (m : Meaning) (types : List ℕ) (column : Cells) where
  abbrev pub t : ℕ
  t = column.kind

  abbrev pub cells : List ℕ
  cells = take (length types) column.cells

  -- receivers before d get nothing
  abbrev pub Passed : ℕ → Type 0
  Passed d = Clear (next_to w m types t cells) d

  abbrev pub own : ℕ → Option Move
  own d = first w (λ r. try m types t cells (Add d r))

  abbrev pub gift : ℕ → ℕ → Option Move
  gift d s = first w (λ r. try m types t cells (Give s d r))

  -- what the giver may give to a receiver of type u, as it is read
  abbrev pub given : ℕ → ℕ → ℕ
  given u s = m.may_give (get_or types s 0) u t (get_or column.cells s 0)

  -- nobody gives to itself
  pub no_gift : (d s : ℕ) → s ≡ d → gift d s ≡ None
  no_gift d s e =
      first_is_none w (λ r. try m types t cells (Give s d r)) (λ r l.
      ap (λ b. cond (not b && has (m.may_give (get_or types s 0) (get_or types d 0) t (held cells s)) r && not (has
      (held cells d) r)) (Some (Give s d r)) None) (eq-eqb s d e))

  pub nothing_to : (d : ℕ) → own d ≡ None → Clear (gift d) (length types) → next_to w m types t cells d ≡ None
  nothing_to d none clear = ap (λ o. or_else o (first (length types) (gift d))) none ∙ first_is_none (length types) (gift d) clear

  pub found_own : (d : ℕ) (v : Move) → d < length types → Passed d → own d ≡ Some v → next w m types t cells ≡ Some v
  found_own d v ld passed here =
      first_is (length types) (next_to w m types t cells) d v ld (ap (λ o. or_else o (first (length types) (gift d))) here) passed

  pub found_gift : (d s : ℕ) (v : Move) → d < length types → Passed d → own d ≡ None → s < length types
      → Clear (gift d) s → gift d s ≡ Some v
      → next w m types t cells ≡ Some v
  found_gift d s v ld passed none ls givers here =
      first_is (length types) (next_to w m types t cells) d v ld
      (ap (λ o. or_else o (first (length types) (gift d))) none ∙ first_is (length types) (gift d) s v ls here givers) passed

  pub found_none : (d : ℕ) → length types ≤ d → Passed d → next w m types t cells ≡ None
  found_none d all passed = first_is_none (length types) (next_to w m types t cells) (clear_to (next_to w m types t
      cells) d (length types) all passed)

  -- a receiver of type u, and its cell h
  module _ (room : length types ≤ length column.cells) (d u h : ℕ) (stands : d < length types) (its_type : u ≡ get_or
      types d u) (its_cell : h ≡ get_or column.cells d h) where
    abbrev cell : ℕ
    cell = get_or column.cells d h

    type_is : u ≡ get_or types d 0
    type_is = get_or_read types d u stands its_type 0

    cell_is : cell ≡ held cells d
    cell_is = sym its_cell ∙ get_or_read column.cells d h (omega arith) its_cell 0 ∙ sym (get_or-take (length types)
        column.cells d 0 stands)

    pub own_is : first w (offer (m.may_add u t cell) cell (Add d)) ≡ own d
    own_is = (λ k. first w (offer (m.may_add (type_is k) t (cell_is k)) (cell_is k) (Add d)))

    pub gift_is : (s : ℕ) → s < length types → (s ≡ d → ⊥) → first w (offer (given u s) cell (Give s d)) ≡ gift d s
    gift_is s ls ne =
        let giver = sym (get_or-take (length types) column.cells s 0 ls) in
        let apart = sym (ne_eqb s d ne) in
        (λ k. first w (λ r. cond (not (apart k) && has (m.may_give (get_or types s 0) (type_is k) t (giver k)) r &&
        not (has (cell_is k) r)) (Some (Give s d r)) None))

    -- a giver of type v, and its cell g: its gift brings nothing new
    pub no_new_gift : (s v g gifts : ℕ) → s < length types → (s ≡ d → ⊥) → v ≡ get_or types s v → g ≡ get_or column.cells s g
        → gifts ≡ m.may_give v u t (get_or column.cells s g) → true ≡ inside gifts cell → gift d s ≡ None
    no_new_gift s v g gifts ls ne its_type its_cell is within =
        let same : gifts ≡ given u s
        = is ∙ (λ k. m.may_give (get_or_read types s v ls its_type 0 k) u t ((sym its_cell ∙ get_or_read column.cells
        s g (omega arith) its_cell 0) k)) in
        sym (gift_is s ls ne) ∙ none_new (given u s) cell (Give s d) w (within ∙ ap (λ x. inside x cell) same)
