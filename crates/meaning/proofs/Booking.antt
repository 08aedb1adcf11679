-- What lines put into a book: each of its entries comes from a line, and each line that asks for an entry has it there.
use Rattle.std.proofs.Common.{◌≡◌, ℕ, ◌⊎◌, List, [], ◌∷◌, Some, None, Option, sym, refl, ap, subst, inl, inr, arith}
use Rattle.rows.specs.Rules.{Rule, CreationRule, Book, created, more_rules, more_creations}
use Rattle.meaning.specs.Named.{Names}
use Rattle.meaning.specs.Forms.{Form, right, subject_type, object_type, owner, create, itrans, grant, note}
use Rattle.meaning.specs.Means.{In, Stands}
use Rattle.meaning.proofs.Standing.{in_front, in_last, in_push, SetStands}

pub data Entry : Type 0 where
  rule_entry : Rule → Entry
  creation_entry : CreationRule → Entry
  mark_entry : ℕ → Entry

abbrev pub Has : Book → Entry → Type 0
Has b (rule_entry rule) = In rule b.rules
Has b (creation_entry c) = In c b.creations
Has b (mark_entry r) = b.mark ≡ Some r

abbrev pub with_entry : Book → Entry → Book
with_entry b (rule_entry rule) = more_rules b rule
with_entry b (creation_entry c) = more_creations b c
with_entry b (mark_entry r) = record { rules = b.rules; creations = b.creations; mark = Some r }

-- the book has room for the entry: a pair has at most one creation, and there is at most one mark
abbrev pub Room : Book → Entry → Type 0
Room b (rule_entry rule) = Unit {0}
Room b (creation_entry c) = created c.by c.on b.creations ≡ None
Room b (mark_entry r) = b.mark ≡ None

with_here : (b : Book) (e : Entry) → Has (with_entry b e) e
with_here b (rule_entry rule) = in_last rule b.rules
with_here b (creation_entry c) = in_last c b.creations
with_here b (mark_entry r) = refl

with_kept : (b : Book) (e : Entry) → Room b e → (x : Entry) → Has b x → Has (with_entry b e) x
with_kept b (rule_entry rule) room (rule_entry x) h = in_front x b.rules (rule ∷ []) h
with_kept b (rule_entry rule) room (creation_entry x) h = h
with_kept b (rule_entry rule) room (mark_entry x) h = h
with_kept b (creation_entry c) room (rule_entry x) h = h
with_kept b (creation_entry c) room (creation_entry x) h = in_front x b.creations (c ∷ []) h
with_kept b (creation_entry c) room (mark_entry x) h = h
with_kept b (mark_entry r) room (rule_entry x) h = h
with_kept b (mark_entry r) room (creation_entry x) h = h
with_kept b (mark_entry r) room (mark_entry x) h = absurd (let z : ◌≡◌ {A = ℕ} 0 1 = cc in omega arith)

with_only : (b : Book) (e x : Entry) → Has (with_entry b e) x → Has b x ⊎ (x ≡ e)
with_only b (rule_entry rule) (rule_entry x) h = elim (in_push x rule b.rules h) [ inl i ↦ inl i | inr e ↦ inr (ap rule_entry e) ]
with_only b (rule_entry rule) (creation_entry x) h = inl h
with_only b (rule_entry rule) (mark_entry x) h = inl h
with_only b (creation_entry c) (rule_entry x) h = inl h
with_only b (creation_entry c) (creation_entry x) h = elim (in_push x c b.creations h) [ inl i ↦ inl i | inr e ↦ inr (ap creation_entry e) ]
with_only b (creation_entry c) (mark_entry x) h = inl h
with_only b (mark_entry r) (rule_entry x) h = inl h
with_only b (mark_entry r) (creation_entry x) h = inl h
with_only b (mark_entry r) (mark_entry x) h = inr cc

-- the line of a row: without a receiver it is an itrans line, with one a grant line
abbrev pub row : List ℕ → Option (List ℕ) → List ℕ → List (List ℕ) → List (List ℕ) → Form
row u None o need gives = itrans u o need gives
row u (Some v) o need gives = grant u v o need gives

abbrev pub ReceiverStands : Option (List ℕ) → List (List ℕ) → Option ℕ → Type 0
ReceiverStands None names None = Unit {0}
ReceiverStands None names (Some k) = ⊥
ReceiverStands (Some v) names None = ⊥
ReceiverStands (Some v) names (Some k) = Stands v names k

-- the rule is that of the row
pub record Row_is (names : Names) (u : List ℕ) (to : Option (List ℕ)) (o : List ℕ) (need gives : List (List ℕ)) (rule : Rule) : Type 0 where
  pub its_by : Stands u names.subject_types rule.by
  pub its_receiver : ReceiverStands to names.subject_types rule.receiver
  pub its_on : Stands o names.object_types rule.on
  pub its_need : SetStands need names.rights rule.need
  pub its_gives : SetStands gives names.rights rule.gives

pub record CreationIs (names : Names) (u o : List ℕ) (gets : List (List ℕ)) (c : CreationRule) : Type 0 where
  pub its_by : Stands u names.subject_types c.by
  pub its_on : Stands o names.object_types c.on
  pub its_gets : SetStands gets names.rights c.gets

-- the entry is what the line asks for
abbrev pub ComesFrom : Names → Entry → Form → Type 0
ComesFrom names (rule_entry rule) f =
    (u : List ℕ) × (to : Option (List ℕ)) × (o : List ℕ) × (need : List (List ℕ)) × (gives : List (List ℕ))
    × (f ≡ row u to o need gives) × Row_is names u to o need gives rule
ComesFrom names (creation_entry c) f =
    (u : List ℕ) × (o : List ℕ) × (gets : List (List ℕ)) × (f ≡ create u o gets) × CreationIs names u o gets c
ComesFrom names (mark_entry r) f = (n : List ℕ) × (f ≡ owner n) × Stands n names.rights r

-- the book has what the line asks for
abbrev pub RowThere : Names → Book → List ℕ → Option (List ℕ) → List ℕ → List (List ℕ) → List (List ℕ) → Type 0
RowThere names b u to o need gives = (rule : Rule) × In rule b.rules × Row_is names u to o need gives rule

abbrev pub There : Names → Book → Form → Type 0
There names b (right n) = Unit {0}
There names b (subject_type n) = Unit {0}
There names b (object_type n) = Unit {0}
There names b (owner n) = (r : ℕ) × (b.mark ≡ Some r) × Stands n names.rights r
There names b (create u o gets) = (c : CreationRule) × In c b.creations × CreationIs names u o gets c
There names b (itrans u o need gives) = RowThere names b u None o need gives
There names b (grant u v o need gives) = RowThere names b u (Some v) o need gives
There names b note = Unit {0}

pub row_there : (names : Names) (b : Book) (u : List ℕ) (to : Option (List ℕ)) (o : List ℕ) (need gives : List (List ℕ))
    → (There names b (row u to o need gives) → RowThere names b u to o need gives)
    × (RowThere names b u to o need gives → There names b (row u to o need gives))
row_there names b u None o need gives = (λ h. h, λ h. h)
row_there names b u (Some v) o need gives = (λ h. h, λ h. h)

-- a line asks for nothing and leaves the book as it was, or the book has one entry more
pub data Line (names : Names) (f : Form) (b next : Book) : Type 0 where
  asks_nothing : ((c : Book) → There names c f) → next ≡ b → Line names f b next
  asks : (e : Entry) → Room b e → ComesFrom names e f → ((c : Book) → Has c e → There names c f) → next ≡ with_entry b e → Line names f b next

pub data Lines (names : Names) : List Form → Book → Book → Type 0 where
  no_line : {b : Book} → Lines names [] b b
  one_line : {b next end : Book} {f : Form} {fs : List Form} → Line names f b next → Lines names fs next end → Lines names (f ∷ fs) b end

module _ (names : Names) where
  line_kept : {f : Form} {b next : Book} → Line names f b next → (x : Entry) → Has b x → Has next x
  line_kept (asks_nothing there same) x h = subst (λ c. Has c x) (sym same) h
  line_kept {f} {b} (asks e room from there same) x h = subst (λ c. Has c x) (sym same) (with_kept b e room x h)

  line_only : {f : Form} {b next : Book} → Line names f b next → (x : Entry) → Has next x → Has b x ⊎ ComesFrom names x f
  line_only (asks_nothing there same) x h = inl (subst (λ c. Has c x) same h)
  line_only {f} {b} (asks e room from there same) x h =
      elim (with_only b e x (subst (λ c. Has c x) same h)) [ inl old ↦ inl old | inr is ↦ inr (subst (λ y. ComesFrom names y f) (sym is) from) ]

  kept : {fs : List Form} {b end : Book} → Lines names fs b end → (x : Entry) → Has b x → Has end x
  kept no_line x h = h
  kept (one_line l ls) x h = kept ls x (line_kept l x h)

  pub only_asked : {fs : List Form} {b end : Book} → Lines names fs b end → (x : Entry) → Has end x
      → Has b x ⊎ ((f : Form) × In f fs × ComesFrom names x f)
  only_asked no_line x h = inl h
  only_asked (one_line {f = g} l ls) x h =
      elim (only_asked ls x h) [
        | inl here ↦ elim (line_only l x here) [ inl old ↦ inl old | inr from ↦ inr (g, inl refl, from) ]
        | inr later ↦ let (f, i, from) = later in inr (f, inr i, from)
      ]

  line_there : {f : Form} {b next : Book} → Line names f b next → (end : Book) → ((x : Entry) → Has next x → Has end x) → There names end f
  line_there (asks_nothing there same) end keep = there end
  line_there {b = b} (asks e room from there same) end keep = there end (keep e (subst (λ c. Has c e) (sym same) (with_here b e)))

  pub all_there : {fs : List Form} {b end : Book} → Lines names fs b end → (f : Form) → In f fs → There names end f
  all_there no_line f i = absurd i
  all_there {end = end} (one_line l ls) f (inl e) = subst (There names end) (sym e) (line_there l end (kept ls))
  all_there (one_line l ls) f (inr i) = all_there ls f i
