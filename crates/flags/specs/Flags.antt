-- The copy-flag book. Right 0 is the access, the rights 1 to n are counted flags, and right 31 is the unlimited flag.
-- A counted flag passes on the access and lower flags, so that a line of copies comes to an end. The unlimited flag passes
-- on all of them, and itself.
use Rattle.std.specs.Prelude.{◌≡◌, ℕ, zero, suc, ◌<◌, ◌≤◌, Bool, false, cond, ◌&&◌, T, ◌⊎◌, List, Some, None, Ok, Result, nat_le, slice_index_or}
use Rattle.rights.specs.declared.refusal.Refusal.{Refusal}
use Rattle.rights.specs.declared.refusal.Refusal.TheVariants.{OutOfRange}
use Rattle.rights.specs.Refusals.{demand}
use Rattle.rights.specs.Sets.{nothing, has, add, either, below}
use Rattle.books.specs.Meaning.{Meaning}
use Rattle.flags.specs.declared.settings.FreshFlag.{FreshFlag}
use Rattle.flags.specs.declared.settings.FreshFlag.TheVariants.{Counted, Unlimited}
use Rattle.flags.specs.declared.settings.Settings.{Settings}

abbrev pub access_right : ℕ
access_right = 0

abbrev pub unlimited_flag : ℕ
unlimited_flag = 31

-- as many counted flags as there are rights between the two
abbrev pub most_flags : ℕ
most_flags = 30

-- settings are taken as they are, if they have a counted flag and not too many
abbrev pub admitted : Settings → Result Settings Refusal
admitted s = demand (nat_le 1 s.flags && nat_le s.flags most_flags) OutOfRange (Ok s)

-- is this type chosen?
abbrev pub chosen : List Bool → ℕ → Bool
chosen types t = slice_index_or types t false

-- What flag k gives, if it is held: the rights below it.
abbrev pub flag_gives : ℕ → ℕ → ℕ
flag_gives k held = cond (has held k) (below k) nothing

-- What those of the flags 1 to n give that are held.
unfoldable pub counted_give : ℕ → ℕ → ℕ
counted_give zero held = nothing
counted_give (suc k) held = either (counted_give k held) (flag_gives (suc k) held)

-- What the unlimited flag gives, if it is held: the access, the flags 1 to n, and itself.
abbrev pub unlimited_gives : ℕ → ℕ → ℕ
unlimited_gives n held = cond (has held unlimited_flag) (add (below (suc n)) unlimited_flag) nothing

-- What all flags give that are held.
abbrev pub flags_give : ℕ → ℕ → ℕ
flags_give n held = either (counted_give n held) (unlimited_gives n held)

-- Is a flag held? Each one gives the access.
abbrev pub holds_flag : ℕ → ℕ → Bool
holds_flag n held = has (flags_give n held) access_right

-- the flag that a creator gets
abbrev pub fresh_of : FreshFlag → ℕ → ℕ
fresh_of Counted n = n
fresh_of Unlimited n = unlimited_flag

abbrev pub fresh_right : Settings → ℕ
fresh_right s = fresh_of s.fresh s.flags

-- What the book with these settings means.
abbrev pub flags_meaning : Settings → Meaning
flags_meaning s = record {
  may_add = λ u o held. cond (s.strong && chosen s.served o && holds_flag s.flags held) (add nothing access_right) nothing;
  may_give = λ u v o held. cond (chosen s.givers u && chosen s.receivers v && chosen s.served o) (flags_give s.flags held) nothing;
  creation = λ u o. cond (chosen s.creators u && chosen s.served o) (Some (add nothing (fresh_right s))) None;
  owner = None;
}

-- Right r is passed on by a counted flag: one above r is held.
abbrev pub ByCounted : ℕ → ℕ → ℕ → Type 0
ByCounted n held r = (k : ℕ) × (1 ≤ k) × (k ≤ n) × T (has held k) × (r < k)

-- Right r is passed on by the unlimited flag.
abbrev pub ByUnlimited : ℕ → ℕ → ℕ → Type 0
ByUnlimited n held r = T (has held unlimited_flag) × ((r ≤ n) ⊎ (r ≡ unlimited_flag))

-- A subject of type u that holds these rights may give right r for an object of type o to a subject of type v.
pub record PassesOn (s : Settings) (u v o held r : ℕ) : Type 0 where
  pub giver : T (chosen s.givers u)
  pub receiver : T (chosen s.receivers v)
  pub served : T (chosen s.served o)
  pub flag : ByCounted s.flags held r ⊎ ByUnlimited s.flags held r

-- Some counted flag is held.
abbrev pub HoldsCounted : ℕ → ℕ → Type 0
HoldsCounted n held = (k : ℕ) × (1 ≤ k) × (k ≤ n) × T (has held k)

-- A subject of any type that holds these rights may add right r for itself: only the access, and only by strong flags.
pub record AddsAccess (s : Settings) (o held r : ℕ) : Type 0 where
  pub strong : T s.strong
  pub served : T (chosen s.served o)
  pub access : r ≡ access_right
  pub flag : HoldsCounted s.flags held ⊎ T (has held unlimited_flag)

-- What the book means, flag by flag: these rights may be given and added, and no others.
pub record FlagsMean : Type 0 where
  pub gives : (s : Settings) (u v o held r : ℕ) → T (has ((flags_meaning s).may_give u v o held) r) → PassesOn s u v o held r
  pub given : (s : Settings) (u v o held r : ℕ) → PassesOn s u v o held r → T (has ((flags_meaning s).may_give u v o held) r)
  pub adds : (s : Settings) (u o held r : ℕ) → T (has ((flags_meaning s).may_add u o held) r) → AddsAccess s o held r
  pub added : (s : Settings) (u o held r : ℕ) → AddsAccess s o held r → T (has ((flags_meaning s).may_add u o held) r)
