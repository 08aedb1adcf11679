-- What a rule book means, and the one law that binds it.
use Rattle.std.specs.Prelude.{ℕ, Option}
use Rattle.rights.specs.Sets.{Within}

-- u and v are types of subjects, o is a type of objects, and held is the set of rights that the acting subject has for
-- the object. A set of rights is a number (the crate `rights` says how); nothing here fixes how many rights there are.
pub record Meaning : Type 0 where
  -- may_add u o held: what a subject of type u may add for itself by a transform
  pub may_add : ℕ → ℕ → ℕ → ℕ
  -- may_give u v o held: what a subject of type u may give to another subject, of type v
  pub may_give : ℕ → ℕ → ℕ → ℕ → ℕ
  -- creation u o: what a creator of type u gets for its new object of type o, or none where there is no creation
  pub creation : ℕ → ℕ → Option ℕ
  -- the right that marks an owner, or none
  pub owner : Option ℕ

-- The law: who holds more may add no less, and give no less.
pub record Lawful (m : Meaning) : Type 0 where
  pub adds_more : (u o held more : ℕ) → Within held more → Within (m.may_add u o held) (m.may_add u o more)
  pub gives_more : (u v o held more : ℕ) → Within held more → Within (m.may_give u v o held) (m.may_give u v o more)
