-- A word that is none of the eight is no head.
use Rattle.std.proofs.Common.{◌≡◌, ℕ, Bool, true, false, List, codes, refl}
use Rattle.std.proofs.lemmas.Slice.Eq.{bytes_eq-Decides}
use Rattle.std.specs.Str.{bytes_eq}
use Rattle.meaning.specs.Forms.{head_of, no_head}

is_false : (b : Bool) → (b ≡ true → ⊥) → b ≡ false
is_false true n = absurd (n refl)
is_false false n = refl

differ : (w p : List ℕ) → (w ≡ p → ⊥) → bytes_eq w p ≡ false
differ w p n = is_false (bytes_eq w p) (λ e. n ((bytes_eq-Decides w p).0 e))

pub none_of_them : (w : List ℕ) → (w ≡ codes "right" → ⊥) → (w ≡ codes "subject-type" → ⊥) → (w ≡ codes "object-type" → ⊥) → (w ≡ codes "owner" → ⊥)
    → (w ≡ codes "create" → ⊥) → (w ≡ codes "itrans" → ⊥) → (w ≡ codes "grant" → ⊥) → (w ≡ codes "note" → ⊥) → head_of w ≡ no_head
none_of_them w a b c d e f g h =
    rw (
      differ w (codes "right") a,
      differ w (codes "subject-type") b,
      differ w (codes "object-type") c,
      differ w (codes "owner") d,
      differ w (codes "create") e,
      differ w (codes "itrans") f,
      differ w (codes "grant") g,
      differ w (codes "note") h,
    )
