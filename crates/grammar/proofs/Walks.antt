-- The moves of the reader, one for each way to go on, and walks of several.
use Rattle.std.proofs.Common.{◌≡◌, ℕ, suc, ◌+◌, ◌<◌, Bool, true, false, cond, T, ltb, List, [], ◌∷◌, ◌++◌, length, sym, refl, ap, ◌∙◌, subst, add-zero, arith, ltb→lt, lt→ltb}
use Rattle.grammar.specs.Bytes.{Class, word_byte, opening, closing, space, line_end, bad, class}
use Rattle.grammar.specs.Items.{Items, empty, with_word, with_list}
use Rattle.grammar.specs.Reader.{State, start, list_opened, word_begun, space_read, list_closed, form_closed, reason, lists, letters, Step, go, done, stop, close, step, Reading, formed, not_read, read_on, read_from}
use Rattle.rights.specs.declared.refusal.Refusal.{Refusal}
use Rattle.rights.specs.declared.refusal.Refusal.TheVariants.{LineBroken}
use Rattle.grammar.proofs.Classes.{byte_in}

pub data Moves : State → Class → ℕ → State → Type 0 where
  begin : {b : ℕ} → Moves start opening b (list_opened [])
  nest_first : {os : List Items} {b : ℕ} → suc (length os) < 8 → Moves (list_opened os) opening b (list_opened (empty ∷ os))
  close_empty : {os : List Items} {b : ℕ} → Moves (list_opened os) closing b (close empty os)
  word_first : {os : List Items} {b : ℕ} → Moves (list_opened os) word_byte b (word_begun empty os (b ∷ []))
  close_word : {xs : Items} {os : List Items} {w : List ℕ} {b : ℕ} → Moves (word_begun xs os w) closing b (close (with_word xs w) os)
  more_word : {xs : Items} {os : List Items} {w : List ℕ} {b : ℕ} → length w < 24 → Moves (word_begun xs os w) word_byte b (word_begun xs os (w ++ (b ∷ [])))
  space_word : {xs : Items} {os : List Items} {w : List ℕ} {b : ℕ} → Moves (word_begun xs os w) space b (space_read (with_word xs w) os)
  nest_next : {xs : Items} {os : List Items} {b : ℕ} → suc (length os) < 8 → Moves (space_read xs os) opening b (list_opened (xs ∷ os))
  word_next : {xs : Items} {os : List Items} {b : ℕ} → Moves (space_read xs os) word_byte b (word_begun xs os (b ∷ []))
  close_list : {xs i : Items} {os : List Items} {b : ℕ} → Moves (list_closed xs i os) closing b (close (with_list xs i) os)
  space_list : {xs i : Items} {os : List Items} {b : ℕ} → Moves (list_closed xs i os) space b (space_read (with_list xs i) os)

-- what a step says
abbrev pub Says : State → Class → ℕ → Step → Type 0
Says s c b (go t) = Moves s c b t
Says s c b (done F) = (s ≡ form_closed F) × (c ≡ line_end)
Says s c b stop = Unit {0}

says_if : (t : Bool) (s : State) (c : Class) (b : ℕ) (u : State) → (T t → Moves s c b u) → Says s c b (cond t (go u) stop)
says_if true s c b u f = f tt
says_if false s c b u f = tt

pub outcome : (s : State) (c : Class) (b : ℕ) → Says s c b (step s c b)
outcome start opening b = begin
outcome start closing b = tt
outcome start word_byte b = tt
outcome start space b = tt
outcome start line_end b = tt
outcome start bad b = tt
outcome (list_opened os) opening b = says_if (ltb (suc (length os)) 8) (list_opened os) opening b (list_opened (empty ∷ os)) (λ h. nest_first (ltb→lt (suc (length os)) 8 h))
outcome (list_opened os) closing b = close_empty
outcome (list_opened os) word_byte b = word_first
outcome (list_opened os) space b = tt
outcome (list_opened os) line_end b = tt
outcome (list_opened os) bad b = tt
outcome (word_begun xs os w) opening b = tt
outcome (word_begun xs os w) closing b = close_word
outcome (word_begun xs os w) word_byte b = says_if (ltb (length w) 24) (word_begun xs os w) word_byte b (word_begun xs os (w ++ (b ∷ []))) (λ h. more_word (ltb→lt (length w) 24 h))
outcome (word_begun xs os w) space b = space_word
outcome (word_begun xs os w) line_end b = tt
outcome (word_begun xs os w) bad b = tt
outcome (space_read xs os) opening b = says_if (ltb (suc (length os)) 8) (space_read xs os) opening b (list_opened (xs ∷ os)) (λ h. nest_next (ltb→lt (suc (length os)) 8 h))
outcome (space_read xs os) closing b = tt
outcome (space_read xs os) word_byte b = word_next
outcome (space_read xs os) space b = tt
outcome (space_read xs os) line_end b = tt
outcome (space_read xs os) bad b = tt
outcome (list_closed xs i os) opening b = tt
outcome (list_closed xs i os) closing b = close_list
outcome (list_closed xs i os) word_byte b = tt
outcome (list_closed xs i os) space b = space_list
outcome (list_closed xs i os) line_end b = tt
outcome (list_closed xs i os) bad b = tt
outcome (form_closed F) opening b = tt
outcome (form_closed F) closing b = tt
outcome (form_closed F) word_byte b = tt
outcome (form_closed F) space b = tt
outcome (form_closed F) line_end b = (refl, refl)
outcome (form_closed F) bad b = tt

cond_at : (t : Bool) (x y : Step) → T t → cond t x y ≡ x
cond_at true x y h = refl
cond_at false x y h = absurd h

pub makes : {s : State} {c : Class} {b : ℕ} {t : State} → Moves s c b t → step s c b ≡ go t
makes begin = refl
makes (nest_first {os} h) = cond_at (ltb (suc (length os)) 8) _ _ (lt→ltb (suc (length os)) 8 h)
makes close_empty = refl
makes word_first = refl
makes close_word = refl
makes (more_word {w = w} h) = cond_at (ltb (length w) 24) _ _ (lt→ltb (length w) 24 h)
makes space_word = refl
makes (nest_next {os = os} h) = cond_at (ltb (suc (length os)) 8) _ _ (lt→ltb (suc (length os)) 8 h)
makes word_next = refl
makes close_list = refl
makes space_list = refl

pub data Walk : State → List ℕ → State → Type 0 where
  stay : {s : State} → Walk s [] s
  walk : {s t u : State} {b : ℕ} {bs : List ℕ} → Moves s (class b) b t → Walk t bs u → Walk s (b ∷ bs) u

pub join : {s t u : State} {xs ys : List ℕ} → Walk s xs t → Walk t ys u → Walk s (xs ++ ys) u
join stay v = v
join (walk m w) v = walk m (join w v)

-- a walk over a byte of a known class
pub by : {s t u : State} {c : Class} {b : ℕ} {bs : List ℕ} → class b ≡ c → Moves s c b t → Walk t bs u → Walk s (b ∷ bs) u
by {s} {t} {b = b} e m w = walk (subst (λ x. Moves s x b t) (sym e) m) w

-- reading goes the way of a walk
pub walked : {s t : State} {xs : List ℕ} → Walk s xs t → (at : ℕ) (ys : List ℕ) → read_from s at (xs ++ ys) ≡ read_from t (at + length xs) ys
walked {s} stay at ys = ap (λ k. read_from s k ys) (sym (add-zero at))
walked {s} (walk {t = t} {u = u} {b = b} {bs = bs} m w) at ys =
    let sum : suc at + length bs ≡ at + suc (length bs) = omega arith in
    ap (λ r. read_on r (reason (class b) (lists s) (letters s)) at (bs ++ ys) (λ x. read_from x (suc at) (bs ++ ys))) (makes m)
    ∙ walked w (suc at) ys ∙ ap (λ k. read_from u k ys) sum

-- What a reading tells: the walk that it went, and where it stopped.
abbrev pub StopsAt : Refusal → State → List ℕ → Type 0
StopsAt n t [] = n ≡ LineBroken
StopsAt n t (b ∷ bs) = (step t (class b) b ≡ stop) × (n ≡ reason (class b) (lists t) (letters t))

abbrev pub Tells : State → ℕ → List ℕ → Reading → Type 0
Tells s at bytes (formed F rest) = (xs : List ℕ) × Walk s xs (form_closed F) × (bytes ≡ xs ++ (10 ∷ rest))
Tells s at bytes (not_read n k) =
    (xs : List ℕ) × (ys : List ℕ) × (t : State) × Walk s xs t × (bytes ≡ xs ++ ys) × (k ≡ at + length xs) × StopsAt n t ys

tells_more : (s t : State) (at b : ℕ) (bs : List ℕ) (r : Reading) → Moves s (class b) b t → Tells t (suc at) bs r → Tells s at (b ∷ bs) r
tells_more s t at b bs (formed F rest) m (xs, w, e) = (b ∷ xs, walk m w, ap (λ l. b ∷ l) e)
tells_more s t at b bs (not_read n k) m (xs, ys, u, w, e, far, h) = (b ∷ xs, ys, u, walk m w, ap (λ l. b ∷ l) e, omega arith, h)

tells_on : (s : State) (at b : ℕ) (bs : List ℕ) (r : Step) → step s (class b) b ≡ r → Says s (class b) b r
    → ((t : State) → Tells t (suc at) bs (read_from t (suc at) bs))
    → Tells s at (b ∷ bs) (read_on r (reason (class b) (lists s) (letters s)) at bs (λ t. read_from t (suc at) bs))
tells_on s at b bs (go t) e m more = tells_more s t at b bs (read_from t (suc at) bs) m (more t)
tells_on s at b bs (done F) e h more =
    ([], subst (λ x. Walk x [] (form_closed F)) (sym h.0) stay, ap (λ x. x ∷ bs) (byte_in b h.1))
tells_on s at b bs stop e h more = ([], b ∷ bs, s, stay, refl, omega arith, (e, refl))

pub tells : (s : State) (at : ℕ) (bytes : List ℕ) → Tells s at bytes (read_from s at bytes)
tells s at [] = ([], [], s, stay, refl, omega arith, refl)
tells s at (b ∷ bs) = tells_on s at b bs (step s (class b) b) refl (outcome s (class b) b) (λ t. tells t (suc at) bs)
