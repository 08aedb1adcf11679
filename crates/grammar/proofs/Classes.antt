-- What a class says of the byte.
use Rattle.std.proofs.Common.{◌≡◌, ℕ, Bool, true, false, cond, T, eqb, refl, subst, eqb→eq}
use Rattle.grammar.specs.Bytes.{Class, word_byte, opening, closing, space, line_end, bad, class, is_word_byte}

pub class_40 : class 40 ≡ opening
unfolding class
class_40 = refl

pub class_41 : class 41 ≡ closing
unfolding class
class_41 = refl

pub class_32 : class 32 ≡ space
unfolding class
class_32 = refl

pub class_10 : class 10 ≡ line_end
unfolding class
class_10 = refl

pub class_97 : class 97 ≡ word_byte
unfolding class
class_97 = refl

-- the byte of a class that has one
abbrev pub ByteOf : Class → ℕ → Type 0
ByteOf word_byte b = Unit {0}
ByteOf opening b = b ≡ 40
ByteOf closing b = b ≡ 41
ByteOf space b = b ≡ 32
ByteOf line_end b = b ≡ 10
ByteOf bad b = Unit {0}

by_tests : (b : ℕ) (w o c s l : Bool) → (T o → b ≡ 40) → (T c → b ≡ 41) → (T s → b ≡ 32) → (T l → b ≡ 10)
    → ByteOf (cond w word_byte (cond o opening (cond c closing (cond s space (cond l line_end bad))))) b
by_tests b true o c s l ho hc hs hl = tt
by_tests b false true c s l ho hc hs hl = ho tt
by_tests b false false true s l ho hc hs hl = hc tt
by_tests b false false false true l ho hc hs hl = hs tt
by_tests b false false false false true ho hc hs hl = hl tt
by_tests b false false false false false ho hc hs hl = tt

byte_of : (b : ℕ) → ByteOf (class b) b
unfolding class
byte_of b =
    by_tests b (is_word_byte b) (eqb b 40) (eqb b 41) (eqb b 32) (eqb b 10)
    (eqb→eq b 40) (eqb→eq b 41) (eqb→eq b 32) (eqb→eq b 10)

pub byte_in : {c : Class} (b : ℕ) → class b ≡ c → ByteOf c b
byte_in b e = subst (λ x. ByteOf x b) e (byte_of b)
