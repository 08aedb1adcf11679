-- Tests that come out true, as statements.
use Rattle.std.proofs.Common.{◌≡◌, Bool, true, false, ◌&&◌, ◌||◌, T, ◌⊎◌, refl, inl, inr}

pub T_true : {b : Bool} → b ≡ true → T b
T_true e = rw e tt

pub true_T : (b : Bool) → T b → b ≡ true
true_T true t = refl
true_T false t = absurd t

pub t_or : (a b : Bool) → T (a || b) → T a ⊎ T b
t_or true b t = inl tt
t_or false b t = inr t

pub or_T_left : (a b : Bool) → T a → T (a || b)
or_T_left true b t = tt
or_T_left false b t = absurd t

pub or_T_right : (a b : Bool) → T b → T (a || b)
or_T_right true b t = tt
or_T_right false b t = t

pub T_and : (a b : Bool) → T (a && b) → T a × T b
T_and true b t = (tt, t)
T_and false b t = absurd t

pub and_T : (a b : Bool) → T a → T b → T (a && b)
and_T true b p q = q
and_T false b p q = p
