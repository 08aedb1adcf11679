-- What the lookup finds.
use Rattle.std.proofs.Common.{◌≡◌, ℕ, ◌<◌, ◌≤◌, Bool, true, false, cond, not, ◌+◌, List, [], map, length, get_or, Some, None, Option, sym, refl, ap, ◌∙◌, inl, inr, arith}
use Rattle.std.proofs.lemmas.Slice.Eq.{bytes_eq-Decides}
use Rattle.std.proofs.lemmas.List.Quantifiers.{position-Some}
use Rattle.std.proofs.lemmas.List.Sums.{position_or_len_is, fails_before_first}
use Rattle.std.proofs.lemmas.Bool.{cases_lt, lt-ltb, le-ltb, false≢true}
use Rattle.std.proofs.lemmas.List.Recursion.{is_position_or_len}
use Rattle.std.specs.Prelude.{nat_lt, MatchOption}
use Rattle.std.proofs.lemmas.List.{length-map}
use Rattle.std.specs.List.{position, position_or_len}
use Rattle.std.specs.Str.{bytes_eq}
use Rattle.entries.specs.Lookup.{place_of, Nowhere, First, LookupFinds}

abbrev pub is : List ℕ → List ℕ → Bool
is name x = bytes_eq x name

-- a name that is not the one asked for
other : (name x : List ℕ) → bytes_eq x name ≡ false → x ≡ name → ⊥
other name x e same = false≢true (sym e ∙ (bytes_eq-Decides x name).1 same)

differs : (name x : List ℕ) → (x ≡ name → ⊥) → (b : Bool) → bytes_eq x name ≡ b → bytes_eq x name ≡ false
differs name x not false e = e
differs name x not true e = absurd (not ((bytes_eq-Decides x name).0 e))

pub found_first : (name : List ℕ) (names : List (List ℕ)) (i : ℕ) → place_of name names ≡ Some i → First name names i
found_first name names i e =
    let (within, here, before) = position-Some (is name) names i [] e in
    record {
      within = within;
      here = (bytes_eq-Decides (get_or names i []) name).0 here;
      before = λ k l. other name (get_or names k []) (before k l);
    }

-- an index of its own list is found, and no other
some_within : (n m : ℕ) → n < m → cond (nat_lt n m) (Some n) None ≡ Some n
some_within n m l = ap (λ b. cond b (Some n) None) (lt-ltb n m l)

none_at_end : (m : ℕ) → cond (nat_lt m m) (Some m) None ≡ None
none_at_end m = elim (cases_lt m m) [ inl l ↦ absurd (omega arith) | inr l ↦ ap (λ b. cond b (Some m) None) (le-ltb m m l) ]

none_past : (n m : ℕ) → cond (nat_lt n m) (Some n) None ≡ None → m ≤ n
none_past n m e = elim (cases_lt n m) [ inl l ↦ absurd (some≢none (sym (some_within n m l) ∙ e)) | inr l ↦ l ] where
  some≢none : {k : ℕ} → ◌≡◌ {A = Option ℕ} (Some k) None → ⊥
  some≢none e = let z : ◌≡◌ {A = ℕ} 0 1 = cc in omega arith

pub found_none : (name : List ℕ) (names : List (List ℕ)) → place_of name names ≡ None → Nowhere name names
found_none name names e k l =
    let past : length names ≤ position_or_len (is name) names = none_past (position_or_len (is name) names) (length names) e in
    let early : k < position_or_len (is name) names = omega arith in
    other name (get_or names k []) (fails_before_first (is name) names k [] early)

-- the first index that passes is i
at_index : (name : List ℕ) (names : List (List ℕ)) (i : ℕ) → i ≤ length names → ((k : ℕ) → k < i → get_or names k [] ≡ name → ⊥) → (i < length names → get_or names i [] ≡ name) → position_or_len (is name) names ≡ i
at_index name names i l before here =
    position_or_len_is (is name) names i [] l (λ k m. differs name _ (before k m) _ refl) (λ m. (bytes_eq-Decides (get_or names i []) name).1 (here m))

pub first_place : (name : List ℕ) (names : List (List ℕ)) (i : ℕ) → First name names i → place_of name names ≡ Some i
first_place name names i f =
    let at = at_index name names i (omega (arith, f.within)) f.before (λ l. f.here) in
    ap (λ n. cond (nat_lt n (length names)) (Some n) None) at ∙ some_within i (length names) f.within

pub no_place : (name : List ℕ) (names : List (List ℕ)) → Nowhere name names → place_of name names ≡ None
no_place name names none =
    let at = at_index name names (length names) (omega arith) none (λ l. absurd (omega arith)) in
    ap (λ n. cond (nat_lt n (length names)) (Some n) None) at ∙ none_at_end (length names)

turned : (b : Bool) (n : ℕ) → cond (not b) n 0 ≡ cond b 0 n
turned true n = refl
turned false n = refl

-- looked up among entries of any kind: `key` is the name of one
position_at : {E : Type 0} (key : E → List ℕ) (name : List ℕ) (entries : List E) → position_or_len (λ e. is name (key e)) entries ≡ position_or_len (is name) (map key entries)
position_at key name entries = sym (is_position_or_len (λ l. position_or_len (is name) (map key l)) (λ e. is name (key e)) refl (λ x xs. turned (is name (key x)) (1 + position_or_len (is name) (map key xs))) entries)

pub place_at : {E : Type 0} (key : E → List ℕ) (name : List ℕ) (entries : List E) → position (λ e. is name (key e)) entries ≡ place_of name (map key entries)
place_at key name entries =
    ap (λ n. cond (nat_lt n (length entries)) (Some n) None) (position_at key name entries)
    ∙ ap (λ m. cond (nat_lt (position_or_len (is name) (map key entries)) m) (Some (position_or_len (is name) (map key entries))) None) (sym (length-map entries key))

judged : (name : List ℕ) (names : List (List ℕ)) → (o : Option ℕ) → place_of name names ≡ o → MatchOption o (Nowhere name names) (First name names)
judged name names None e = found_none name names e
judged name names (Some i) e = found_first name names i e

pub lookup_finds : LookupFinds
lookup_finds = record { judged = λ name names. judged name names _ refl; settled = first_place; missing = no_place }
