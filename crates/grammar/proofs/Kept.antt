-- What a walk keeps: the text of the state is what was walked over, the state is sound, and the two counts are the text's.
use Rattle.std.proofs.Common.{◌≡◌, ℕ, suc, ◌<◌, List, [], ◌∷◌, ◌++◌, length, sym, refl, ap, ◌∙◌, append_assoc, append-nil, arith, length-append}
use Rattle.grammar.specs.Bytes.{Class, word_byte, class}
use Rattle.grammar.specs.Items.{Items, empty, with_word, with_list, gap, inside, render, WordBytes, GoodWord, Good}
use Rattle.grammar.specs.Reader.{State, start, list_opened, word_begun, space_read, list_closed, form_closed, lists, letters, close}
use Rattle.grammar.specs.Claims.{lists_by, letters_by, lists_after, letters_after}
use Rattle.grammar.proofs.Classes.{byte_in}
use Rattle.grammar.proofs.Walks.{Moves, begin, nest_first, close_empty, word_first, close_word, more_word, space_word, nest_next, word_next, close_list, space_list, Walk, stay, walk}

-- the text of open lists, up to where the next item of the innermost begins
abbrev pub front : List Items → List ℕ
front [] = []
front (o ∷ os) = front os ++ (40 ∷ (inside o ++ gap o))

abbrev pub text : State → List ℕ
text start = []
text (list_opened os) = front (empty ∷ os)
text (word_begun xs os w) = front (xs ∷ os) ++ w
text (space_read xs os) = front (xs ∷ os)
text (list_closed xs i os) = front os ++ (40 ∷ inside (with_list xs i))
text (form_closed F) = render F

text_close : (i : Items) (os : List Items) → text (close i os) ≡ front os ++ (40 ∷ (inside i ++ (41 ∷ [])))
text_close i [] = refl
text_close i (o ∷ os) = simp append_assoc

text_move : {s : State} {c : Class} {b : ℕ} {t : State} → Moves s c b t → class b ≡ c → text t ≡ text s ++ (b ∷ [])
text_move {b = b} begin e = rw (byte_in b e)
text_move {b = b} (nest_first h) e = rw (byte_in b e)
text_move {b = b} (close_empty {os}) e = rw (byte_in b e) (text_close empty os ∙ simp append_assoc)
text_move word_first e = refl
text_move {b = b} (close_word {xs} {os} {w}) e = rw (byte_in b e) (text_close (with_word xs w) os ∙ simp append_assoc)
text_move (more_word h) e = simp append_assoc
text_move {b = b} space_word e = rw (byte_in b e) (simp append_assoc)
text_move {b = b} (nest_next h) e = rw (byte_in b e)
text_move word_next e = refl
text_move {b = b} (close_list {xs} {i} {os}) e = rw (byte_in b e) (text_close (with_list xs i) os ∙ simp append_assoc)
text_move {b = b} space_list e = rw (byte_in b e) (simp append_assoc)

pub text_walk : {s t : State} {xs : List ℕ} → Walk s xs t → text t ≡ text s ++ xs
text_walk {s} stay = sym (append-nil (text s))
text_walk {s} (walk {b = b} {bs = bs} m w) =
    text_walk w ∙ ap (λ l. l ++ bs) (text_move m refl) ∙ append_assoc (text s) (b ∷ []) bs

-- open lists are good, and each that holds one more is at depth 7 at most
abbrev GoodOpen : List Items → Type 0
GoodOpen [] = Unit {0}
GoodOpen (o ∷ os) = Good (suc (length os)) o × (suc (length os) < 8) × GoodOpen os

abbrev pub Sound : State → Type 0
Sound start = Unit {0}
Sound (list_opened os) = GoodOpen os
Sound (word_begun xs os w) = GoodOpen os × Good (suc (length os)) xs × GoodWord w
Sound (space_read xs os) = GoodOpen os × Good (suc (length os)) xs
Sound (list_closed xs i os) = GoodOpen os × Good (suc (length os)) (with_list xs i)
Sound (form_closed F) = Good 1 F

sound_close : (i : Items) (os : List Items) → GoodOpen os → Good (suc (length os)) i → Sound (close i os)
sound_close i [] h g = g
sound_close i (o ∷ os) h g = (h.2, (h.0, h.1, g))

one_byte : (b : ℕ) → class b ≡ word_byte → GoodWord (b ∷ [])
one_byte b e = record { some = omega arith; short = omega arith; bytes = (e, tt) }

bytes_more : (w : List ℕ) (b : ℕ) → WordBytes w → class b ≡ word_byte → WordBytes (w ++ (b ∷ []))
bytes_more [] b h e = (e, tt)
bytes_more (x ∷ w) b h e = (h.0, bytes_more w b h.1 e)

byte_more : (w : List ℕ) (b : ℕ) → length w < 24 → GoodWord w → class b ≡ word_byte → GoodWord (w ++ (b ∷ []))
byte_more w b h g e = record {
  some = simp length-append (omega arith);
  short = simp length-append (omega arith);
  bytes = bytes_more w b g.bytes e;
}

sound_move : {s : State} {c : Class} {b : ℕ} {t : State} → Moves s c b t → class b ≡ c → Sound s → Sound t
sound_move begin e h = tt
sound_move (nest_first l) e h = (tt, l, h)
sound_move (close_empty {os}) e h = sound_close empty os h tt
sound_move {b = b} word_first e h = (h, tt, one_byte b e)
sound_move (close_word {xs} {os} {w}) e h = sound_close (with_word xs w) os h.0 (h.1, h.2)
sound_move {b = b} (more_word {w = w} l) e h = (h.0, h.1, byte_more w b l h.2 e)
sound_move space_word e h = (h.0, (h.1, h.2))
sound_move (nest_next l) e h = (h.1, l, h.0)
sound_move {b = b} word_next e h = (h.0, h.1, one_byte b e)
sound_move (close_list {xs} {i} {os}) e h = sound_close (with_list xs i) os h.0 h.1
sound_move space_list e h = h

pub sound_walk : {s t : State} {xs : List ℕ} → Walk s xs t → Sound s → Sound t
sound_walk stay h = h
sound_walk (walk m w) h = sound_walk w (sound_move m refl h)

lists_close : (i : Items) (os : List Items) → lists (close i os) ≡ length os
lists_close i [] = refl
lists_close i (o ∷ os) = refl

letters_close : (i : Items) (os : List Items) → letters (close i os) ≡ 0
letters_close i [] = refl
letters_close i (o ∷ os) = refl

lists_move : {s : State} {c : Class} {b : ℕ} {t : State} → Moves s c b t → lists t ≡ lists_by c (lists s)
lists_move begin = refl
lists_move (nest_first h) = refl
lists_move (close_empty {os}) = lists_close empty os
lists_move word_first = refl
lists_move (close_word {xs} {os} {w}) = lists_close (with_word xs w) os
lists_move (more_word h) = refl
lists_move space_word = refl
lists_move (nest_next h) = refl
lists_move word_next = refl
lists_move (close_list {xs} {i} {os}) = lists_close (with_list xs i) os
lists_move space_list = refl

letters_move : {s : State} {c : Class} {b : ℕ} {t : State} → Moves s c b t → letters t ≡ letters_by c (letters s)
letters_move begin = refl
letters_move (nest_first h) = refl
letters_move (close_empty {os}) = letters_close empty os
letters_move word_first = refl
letters_move (close_word {xs} {os} {w}) = letters_close (with_word xs w) os
letters_move {b = b} (more_word {w = w} h) = simp length-append (omega arith)
letters_move space_word = refl
letters_move (nest_next h) = refl
letters_move word_next = refl
letters_move (close_list {xs} {i} {os}) = letters_close (with_list xs i) os
letters_move space_list = refl

pub lists_walk : {s t : State} {xs : List ℕ} → Walk s xs t → lists t ≡ lists_after (lists s) xs
lists_walk stay = refl
lists_walk (walk {bs = bs} m w) = lists_walk w ∙ ap (λ d. lists_after d bs) (lists_move m)

pub letters_walk : {s t : State} {xs : List ℕ} → Walk s xs t → letters t ≡ letters_after (letters s) xs
letters_walk stay = refl
letters_walk (walk {bs = bs} m w) = letters_walk w ∙ ap (λ k. letters_after k bs) (letters_move m)
