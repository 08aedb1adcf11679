-- What a line does to the names: it adds a new one at the end of its kind, or none.
use Rattle.std.proofs.Common.{◌≡◌, ℕ, List, [], ◌∷◌, ◌++◌, sym, ◌∙◌, subst, append_assoc, append-nil}
use Rattle.meaning.specs.Named.{Names}
use Rattle.meaning.specs.Forms.{Form, right, subject_type, object_type, owner, create, itrans, grant, note}
use Rattle.meaning.specs.Means.{In, Stands, right_names, subject_type_names, object_type_names}
use Rattle.meaning.proofs.Standing.{Differ, differ_between, differ_push, stands_later}

abbrev pub with_rights : Names → List (List ℕ) → Names
with_rights a more = record { rights = more; subject_types = a.subject_types; object_types = a.object_types }

abbrev pub with_subject_types : Names → List (List ℕ) → Names
with_subject_types a more = record { rights = a.rights; subject_types = more; object_types = a.object_types }

abbrev pub with_object_types : Names → List (List ℕ) → Names
with_object_types a more = record { rights = a.rights; subject_types = a.subject_types; object_types = more }

abbrev pub NamesStep : Names → Form → Names → Type 0
NamesStep a (right n) b = (In n a.rights → ⊥) × (b ≡ with_rights a (a.rights ++ (n ∷ [])))
NamesStep a (subject_type n) b = (In n (a.subject_types ++ a.object_types) → ⊥) × (b ≡ with_subject_types a (a.subject_types ++ (n ∷ [])))
NamesStep a (object_type n) b = (In n (a.subject_types ++ a.object_types) → ⊥) × (b ≡ with_object_types a (a.object_types ++ (n ∷ [])))
NamesStep a (owner n) b = b ≡ a
NamesStep a (create u o gets) b = b ≡ a
NamesStep a (itrans u o need gives) b = b ≡ a
NamesStep a (grant u v o need gives) b = b ≡ a
NamesStep a note b = b ≡ a

-- no right stands twice, and no type
abbrev pub Differs : Names → Type 0
Differs a = Differ a.rights × Differ (a.subject_types ++ a.object_types)

pub step_differs : (f : Form) (a b : Names) → NamesStep a f b → Differs a → Differs b
step_differs (right n) a b (new, e) (d, t) = subst Differs (sym e) (differ_push n a.rights new d, t)
step_differs (subject_type n) a b (new, e) (d, t) = subst Differs (sym e) (d, differ_between n a.subject_types a.object_types new t)
step_differs (object_type n) a b (new, e) (d, t) =
    let more = differ_push n (a.subject_types ++ a.object_types) new t in
    subst Differs (sym e) (d, subst Differ (append_assoc a.subject_types a.object_types (n ∷ [])) more)
step_differs (owner n) a b e d = subst Differs (sym e) d
step_differs (create u o gets) a b e d = subst Differs (sym e) d
step_differs (itrans u o need gives) a b e d = subst Differs (sym e) d
step_differs (grant u v o need gives) a b e d = subst Differs (sym e) d
step_differs note a b e d = subst Differs (sym e) d

-- after these lines there are the names from before, and then those that the lines declare
abbrev pub Grown : Names → List Form → Names → Type 0
Grown a fs b =
    (b.rights ≡ a.rights ++ right_names fs) × (b.subject_types ≡ a.subject_types ++ subject_type_names fs)
    × (b.object_types ≡ a.object_types ++ object_type_names fs)

pub not_grown : (a : Names) → Grown a [] a
not_grown a = (sym (append-nil a.rights), sym (append-nil a.subject_types), sym (append-nil a.object_types))

pub step_grown : (f : Form) (a b : Names) → NamesStep a f b → (fs : List Form) (c : Names) → Grown b fs c → Grown a (f ∷ fs) c
step_grown (right n) a b (new, e) fs c g =
    let (r, u, o) = subst (λ x. Grown x fs c) e g in
    (r ∙ append_assoc a.rights (n ∷ []) (right_names fs), u, o)
step_grown (subject_type n) a b (new, e) fs c g =
    let (r, u, o) = subst (λ x. Grown x fs c) e g in
    (r, u ∙ append_assoc a.subject_types (n ∷ []) (subject_type_names fs), o)
step_grown (object_type n) a b (new, e) fs c g =
    let (r, u, o) = subst (λ x. Grown x fs c) e g in
    (r, u, o ∙ append_assoc a.object_types (n ∷ []) (object_type_names fs))
step_grown (owner n) a b e fs c g = subst (λ x. Grown x fs c) e g
step_grown (create u o gets) a b e fs c g = subst (λ x. Grown x fs c) e g
step_grown (itrans u o need gives) a b e fs c g = subst (λ x. Grown x fs c) e g
step_grown (grant u v o need gives) a b e fs c g = subst (λ x. Grown x fs c) e g
step_grown note a b e fs c g = subst (λ x. Grown x fs c) e g

-- names that stand stay where they stand
pub record Later (a b : Names) : Type 0 where
  pub rights : {name : List ℕ} {k : ℕ} → Stands name a.rights k → Stands name b.rights k
  pub subject_types : {name : List ℕ} {k : ℕ} → Stands name a.subject_types k → Stands name b.subject_types k
  pub object_types : {name : List ℕ} {k : ℕ} → Stands name a.object_types k → Stands name b.object_types k

pub grown_later : (a : Names) (fs : List Form) (b : Names) → Grown a fs b → Later a b
grown_later a fs b (r, u, o) = record {
  rights = λ s. stands_later (right_names fs) r s;
  subject_types = λ s. stands_later (subject_type_names fs) u s;
  object_types = λ s. stands_later (object_type_names fs) o s;
}
