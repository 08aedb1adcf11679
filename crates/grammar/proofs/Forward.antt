-- Every good form is walked over; and every walk can go on to the end of some form.
use Rattle.std.proofs.Common.{◌≡◌, ℕ, suc, ◌+◌, ◌<◌, ◌≤◌, List, [], ◌∷◌, ◌++◌, length, sym, subst, append_assoc, append-nil, arith, length-append}
use Rattle.grammar.specs.Bytes.{Class, word_byte, opening, closing, class}
use Rattle.grammar.specs.Items.{Items, empty, with_word, with_list, gap, inside, render, WordBytes, GoodWord, Good, GoodForm}
use Rattle.grammar.specs.Reader.{State, start, list_opened, word_begun, space_read, list_closed, form_closed, close, rests, ready}
use Rattle.grammar.proofs.Classes.{class_40, class_41, class_32, class_97}
use Rattle.grammar.proofs.Walks.{Moves, begin, nest_first, close_empty, word_first, close_word, more_word, space_word, nest_next, word_next, close_list, space_list, Walk, stay, join, by}

to_ready : (xs : Items) (os : List Items) → Walk (rests xs os) (gap xs) (ready xs os)
to_ready empty os = stay
to_ready (with_word xs w) os = by class_32 space_word stay
to_ready (with_list xs i) os = by class_32 space_list stay

to_close : (xs : Items) (os : List Items) → Moves (rests xs os) closing 41 (close xs os)
to_close empty os = close_empty
to_close (with_word xs w) os = close_word
to_close (with_list xs i) os = close_list

to_list : (xs : Items) (os : List Items) → suc (length os) < 8 → Moves (ready xs os) opening 40 (list_opened (xs ∷ os))
to_list empty os h = nest_first h
to_list (with_word xs w) os h = nest_next h
to_list (with_list xs i) os h = nest_next h

to_word : (xs : Items) (os : List Items) (b : ℕ) → Moves (ready xs os) word_byte b (word_begun xs os (b ∷ []))
to_word empty os b = word_first
to_word (with_word xs w) os b = word_next
to_word (with_list xs i) os b = word_next

word_on : (xs : Items) (os : List Items) (w v : List ℕ) → length v + length w ≤ 24 → WordBytes w
    → Walk (word_begun xs os v) w (word_begun xs os (v ++ w))
word_on xs os [] v h k = subst (λ x. Walk (word_begun xs os v) [] (word_begun xs os x)) (sym (append-nil v)) stay
word_on xs os (b ∷ w) v h k =
    let long : length (v ++ (b ∷ [])) + length w ≤ 24 = simp length-append (omega arith) in
    let room : length v < 24 = omega arith in
    subst (λ x. Walk (word_begun xs os v) (b ∷ w) (word_begun xs os x)) (append_assoc v (b ∷ []) w)
    (by k.0 (more_word room) (word_on xs os w (v ++ (b ∷ [])) long k.1))

whole_word : (xs : Items) (os : List Items) (w : List ℕ) → GoodWord w → Walk (ready xs os) w (word_begun xs os w)
whole_word xs os [] g = absurd (omega (arith, g.some))
whole_word xs os (b ∷ w) g =
    let h : length (b ∷ []) + length w ≤ 24 = omega (arith, g.short) in
    by g.bytes.0 (to_word xs os b) (word_on xs os w (b ∷ []) h g.bytes.1)

pub forward : (xs : Items) (os : List Items) → Good (suc (length os)) xs → Walk (list_opened os) (inside xs) (rests xs os)
forward empty os g = stay
forward (with_word xs w) os g = join (forward xs os g.0) (join (to_ready xs os) (whole_word xs os w g.1))
forward (with_list xs i) os g =
    join (forward xs os g.0) (join (to_ready xs os)
    (by class_40 (to_list xs os g.1) (join (forward i (xs ∷ os) g.2) (by class_41 (to_close i (xs ∷ os)) stay))))

pub form_walk : (F : Items) → GoodForm F → Walk start (render F) (form_closed F)
form_walk F g = by class_40 begin (join (forward F [] g) (by class_41 (to_close F []) stay))

-- the rest of some line
abbrev Ends : State → Type 0
Ends s = (ys : List ℕ) × (F : Items) × Walk s ys (form_closed F)

ends_by : {s t : State} {c : Class} (b : ℕ) → class b ≡ c → Moves s c b t → Ends t → Ends s
ends_by b e m (ys, F, w) = (b ∷ ys, F, by e m w)

close_all : (os : List Items) (i : Items) → Ends (close i os)
close_all [] i = ([], i, stay)
close_all (o ∷ os) i = ends_by 41 class_41 close_list (close_all os (with_list o i))

pub ends : (s : State) → Ends s
ends start = ends_by 40 class_40 begin (ends_by 41 class_41 close_empty (close_all [] empty))
ends (list_opened os) = ends_by 41 class_41 close_empty (close_all os empty)
ends (word_begun xs os w) = ends_by 41 class_41 close_word (close_all os (with_word xs w))
ends (space_read xs os) = ends_by 97 class_97 word_next (ends_by 41 class_41 close_word (close_all os (with_word xs (97 ∷ []))))
ends (list_closed xs i os) = ends_by 41 class_41 close_list (close_all os (with_list xs i))
ends (form_closed F) = ([], F, stay)
