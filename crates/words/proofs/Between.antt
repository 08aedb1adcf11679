-- Between the items of a list: what each byte does there.
use Rattle.std.proofs.Common.{◌≡◌, ℕ, suc, ◌+◌, ◌<◌, ◌≤◌, true, false, cond, ltb, List, [], ◌∷◌, length, drop, Ok, sym, refl, ap, ◌∙◌, subst, arith}
use Rattle.std.proofs.lemmas.Bool.{lt-ltb, le-ltb}
use Rattle.grammar.specs.Bytes.{Class, word_byte, opening, closing, space, line_end, bad, class}
use Rattle.grammar.specs.Items.{Items, empty, with_word, with_list}
use Rattle.grammar.specs.Reader.{State, start, list_opened, word_begun, form_closed, reason, lists, letters, go, stop, close, step, Reading, not_read, read_on, read, rests, ready}
use Rattle.rights.specs.declared.refusal.Refusal.TheVariants.{LineBroken}
use Rattle.words.specs.Names.{is_letter}
use Rattle.words.specs.Stops.{Stop}
use Rattle.words.specs.Tree.{part, reading, Refuses, ByteThere, WordEnds, ItemRead, ListRead, LineRead, WordRefused, ItemRefused, ListRefused, ItemDue}
use Rattle.grammar.proofs.Classes.{class_40, class_41, class_32, class_10, byte_in}
use Rattle.words.proofs.Bytewise.{letter_class, other_class, byte, at_byte, on_class, stop_class, stop_end}

ready_lists : (xs : Items) (os : List Items) → lists (ready xs os) ≡ suc (length os)
ready_lists empty os = refl
ready_lists (with_word xs w) os = refl
ready_lists (with_list xs i) os = refl

ready_letters : (xs : Items) (os : List Items) → letters (ready xs os) ≡ 0
ready_letters empty os = refl
ready_letters (with_word xs w) os = refl
ready_letters (with_list xs i) os = refl

rests_lists : (xs : Items) (os : List Items) → lists (rests xs os) ≡ suc (length os)
rests_lists empty os = refl
rests_lists (with_word xs w) os = refl
rests_lists (with_list xs i) os = refl

word_step : (xs : Items) (os : List Items) (b : ℕ) → step (ready xs os) word_byte b ≡ go (word_begun xs os (b ∷ []))
word_step empty os b = refl
word_step (with_word xs w) os b = refl
word_step (with_list xs i) os b = refl

open_step : (xs : Items) (os : List Items) (b : ℕ) → step (ready xs os) opening b ≡ cond (ltb (suc (length os)) 8) (go (list_opened (xs ∷ os))) stop
open_step empty os b = refl
open_step (with_word xs w) os b = refl
open_step (with_list xs i) os b = refl

no_room : (xs : Items) (os : List Items) (b : ℕ) → suc (length os) ≡ 8 → step (ready xs os) opening b ≡ stop
no_room xs os b full =
    open_step xs os b ∙ ap (λ t. cond t (go (list_opened (xs ∷ os))) stop) (le-ltb (suc (length os)) 8 (omega arith))

other_ready : (xs : Items) (os : List Items) (b : ℕ) (c : Class) → (c ≡ opening → suc (length os) ≡ 8) → (c ≡ word_byte → ⊥)
    → (xs ≡ empty → c ≡ closing → ⊥) → step (ready xs os) c b ≡ stop
other_ready xs os b opening o w k = no_room xs os b (o refl)
other_ready xs os b word_byte o w k = absurd (w refl)
other_ready empty os b closing o w k = absurd (k refl refl)
other_ready (with_word xs v) os b closing o w k = refl
other_ready (with_list xs i) os b closing o w k = refl
other_ready empty os b space o w k = refl
other_ready (with_word xs v) os b space o w k = refl
other_ready (with_list xs i) os b space o w k = refl
other_ready empty os b line_end o w k = refl
other_ready (with_word xs v) os b line_end o w k = refl
other_ready (with_list xs i) os b line_end o w k = refl
other_ready empty os b bad o w k = refl
other_ready (with_word xs v) os b bad o w k = refl
other_ready (with_list xs i) os b bad o w k = refl

close_step : (xs : Items) (os : List Items) (b : ℕ) → step (rests xs os) closing b ≡ go (close xs os)
close_step empty os b = refl
close_step (with_word xs w) os b = refl
close_step (with_list xs i) os b = refl

space_step : (xs : Items) (os : List Items) (b : ℕ) → (xs ≡ empty → ⊥) → step (rests xs os) space b ≡ go (ready xs os)
space_step empty os b h = absurd (h refl)
space_step (with_word xs w) os b h = refl
space_step (with_list xs i) os b h = refl

-- neither a closing bracket nor a space after an item
abbrev Halts : Items → List Items → ℕ → Class → Type 0
Halts xs os b c = (step (rests xs os) c b ≡ stop) × (reason c (suc (length os)) (letters (rests xs os)) ≡ reason c (suc (length os)) 0)

other_rests : (xs : Items) (os : List Items) (b : ℕ) (c : Class) → (xs ≡ empty → ⊥) → (c ≡ closing → ⊥) → (c ≡ space → ⊥)
    → (c ≡ word_byte → (step (rests xs os) word_byte b ≡ stop) × (letters (rests xs os) ≡ 0)) → Halts xs os b c
other_rests xs os b closing h k s w = absurd (k refl)
other_rests xs os b space h k s w = absurd (s refl)
other_rests xs os b word_byte h k s w = ((w refl).0, ap (λ n. reason word_byte (suc (length os)) n) (w refl).1)
other_rests empty os b opening h k s w = absurd (h refl)
other_rests (with_word xs v) os b opening h k s w = (refl, refl)
other_rests (with_list xs i) os b opening h k s w = (refl, refl)
other_rests empty os b line_end h k s w = (absurd (h refl), refl)
other_rests (with_word xs v) os b line_end h k s w = (refl, refl)
other_rests (with_list xs i) os b line_end h k s w = (refl, refl)
other_rests empty os b bad h k s w = (absurd (h refl), refl)
other_rests (with_word xs v) os b bad h k s w = (refl, refl)
other_rests (with_list xs i) os b bad h k s w = (refl, refl)

with_word_some : (xs : Items) (w : List ℕ) → with_word xs w ≡ empty → ⊥
with_word_some xs w e = let z : ◌≡◌ {A = ℕ} 0 1 = cc in omega arith

with_list_some : (xs i : Items) → with_list xs i ≡ empty → ⊥
with_list_some xs i e = let z : ◌≡◌ {A = ℕ} 0 1 = cc in omega arith

refuses_by : (e : Stop) {r q : Reading} → r ≡ q → Refuses e q → Refuses e r
refuses_by e eq h = subst (Refuses e) (sym eq) h

-- a byte b stands at a place
module _ (text : List ℕ) (at b : ℕ) (B : ByteThere text at (Ok b)) where
  class_there : (c : Class) → class b ≡ c → class (byte text at) ≡ c
  class_there c k = ap class (sym B.1) ∙ k

  pub is_letter_there : true ≡ is_letter b → class (byte text at) ≡ word_byte
  is_letter_there e = class_there word_byte (letter_class (class b) (sym e))

  pub on_there : (s t : State) (c : Class) → class b ≡ c → step s c (byte text at) ≡ go t → reading text s at ≡ reading text t (at + 1)
  on_there s t c k e = on_class text s t at c B.0 (class_there c k) e

  pub stop_there : (s : State) → step s (class b) (byte text at) ≡ stop → reading text s at ≡ not_read (reason (class b) (lists s) (letters s)) at
  stop_there s e = stop_class text s at (class b) B.0 (class_there (class b) refl) e

module _ (text : List ℕ) (at d : ℕ) (xs : Items) where
  pub item_ends : length text ≤ at → (os : List Items) → reading text (ready xs os) at ≡ not_read LineBroken at
  item_ends h os = stop_end text (ready xs os) at h

  module _ (b : ℕ) (B : ByteThere text at (Ok b)) where
    word_begins : true ≡ is_letter b → (os : List Items) → reading text (ready xs os) at ≡ reading text (word_begun xs os (byte text at ∷ [])) (at + 1)
    word_begins e os =
        on_class text (ready xs os) (word_begun xs os (byte text at ∷ [])) at word_byte B.0 (is_letter_there text at b B e) (word_step xs os (byte text at))

    pub item_word : (end : ℕ) → true ≡ is_letter b → WordEnds text at end → ItemRead text at d xs (with_word xs (part text at end)) end
    item_word end e W = record {
      later = W.later;
      within = W.within;
      some = with_word_some xs (part text at end);
      leads = λ os l. word_begins e os ∙ W.leads xs os;
      settled = λ os l u. absurd (W.settled l u);
    }

    pub item_word_refused : (e : Stop) → true ≡ is_letter b → WordRefused text at e → ItemRefused text at d xs e
    item_word_refused e k W os l = refuses_by e (word_begins k os) (W xs os)

    opens : b ≡ 40 → d < 8 → (os : List Items) → suc (length os) ≡ d → reading text (ready xs os) at ≡ reading text (list_opened (xs ∷ os)) (at + 1)
    opens is more os l =
        let room : ltb (suc (length os)) 8 ≡ true = lt-ltb (suc (length os)) 8 (omega arith) in
        on_there text at b B (ready xs os) (list_opened (xs ∷ os)) opening (ap class is ∙ class_40)
        (open_step xs os (byte text at) ∙ ap (λ t. cond t (go (list_opened (xs ∷ os))) stop) room)

    pub item_list : (i : Items) (end next : ℕ) → b ≡ 40 → next ≡ suc d → d < 8 → ListRead text (at + 1) next i end
        → ItemRead text at d xs (with_list xs i) end
    item_list i end next is deeper more L = record {
      later = omega (arith, L.later);
      within = L.within;
      some = with_list_some xs i;
      leads = λ os l. opens is more os l ∙ L.leads (xs ∷ os) (omega arith);
      settled = λ os l u. (refl, refl);
    }

    pub item_list_refused : (e : Stop) (next : ℕ) → b ≡ 40 → next ≡ suc d → d < 8 → ListRefused text (at + 1) next e → ItemRefused text at d xs e
    item_list_refused e next is deeper more L os l = refuses_by e (opens is more os l) (L (xs ∷ os) (omega arith))

    pub item_other : (b ≡ 40 → d ≡ 8) → false ≡ is_letter b → ItemDue text at xs
        → (os : List Items) → suc (length os) ≡ d → reading text (ready xs os) at ≡ not_read (reason (class b) d 0) at
    item_other o w due os l =
        stop_there text at b B (ready xs os)
        (other_ready xs os (byte text at) (class b) (λ e. l ∙ o (byte_in b e)) (other_class (class b) (sym w)) (λ e u. due e (sym B.1 ∙ byte_in b u)))
        ∙ ap (λ n. not_read (reason (class b) n (letters (ready xs os))) at) (ready_lists xs os ∙ l)
        ∙ ap (λ n. not_read (reason (class b) d n) at) (ready_letters xs os)

-- the items so far of a list
abbrev pub ListLeads : List ℕ → ℕ → ℕ → Items → ℕ → Type 0
ListLeads text from d xs at = (os : List Items) → suc (length os) ≡ d → reading text (list_opened os) from ≡ reading text (ready xs os) at

pub list_empty : (text : List ℕ) (from d b : ℕ) → ByteThere text from (Ok b) → b ≡ 41 → ListRead text from d empty (from + 1)
list_empty text from d b B is = record {
  later = omega arith;
  within = omega arith;
  leads = λ os l. on_there text from b B (list_opened os) (close empty os) closing (ap class is ∙ class_41) refl;
}

module _ (text : List ℕ) (from d : ℕ) (xs : Items) (at : ℕ) (so_far : ListLeads text from d xs at) (ys : Items) (end : ℕ) (I : ItemRead text at d xs ys end) where
  after : (os : List Items) → suc (length os) ≡ d → reading text (list_opened os) from ≡ reading text (rests ys os) end
  after os l = so_far os l ∙ I.leads os l

  pub list_ends : length text ≤ end → (os : List Items) → suc (length os) ≡ d → reading text (list_opened os) from ≡ not_read LineBroken end
  list_ends h os l = after os l ∙ stop_end text (rests ys os) end h

  module _ (b : ℕ) (B : ByteThere text end (Ok b)) where
    pub list_close : from ≤ at → b ≡ 41 → ListRead text from d ys (end + 1)
    list_close r is = record {
      later = omega (arith, I.later);
      within = omega arith;
      leads = λ os l. after os l ∙ on_there text end b B (rests ys os) (close ys os) closing (ap class is ∙ class_41) (close_step ys os (byte text end));
    }

    pub list_space : b ≡ 32 → ListLeads text from d ys (end + 1)
    list_space is os l =
        after os l ∙ on_there text end b B (rests ys os) (ready ys os) space (ap class is ∙ class_32) (space_step ys os (byte text end) I.some)

    pub list_other : (b ≡ 41 → ⊥) → (b ≡ 32 → ⊥)
        → (os : List Items) → suc (length os) ≡ d → reading text (list_opened os) from ≡ not_read (reason (class b) d 0) end
    list_other k s os l =
        let settled = λ (e : class b ≡ word_byte). I.settled os B.0 (class_there text end b B word_byte e) in
        let halts = other_rests ys os (byte text end) (class b) I.some (λ e. k (byte_in b e)) (λ e. s (byte_in b e)) settled in
        after os l ∙ stop_there text end b B (rests ys os) halts.0
        ∙ ap (λ n. not_read (reason (class b) n (letters (rests ys os))) end) (rests_lists ys os)
        ∙ ap (λ n. not_read n end) halts.1
        ∙ ap (λ n. not_read (reason (class b) n 0) end) l

other_start : (b : ℕ) (c : Class) → (c ≡ opening → ⊥) → step start c b ≡ stop
other_start b opening h = absurd (h refl)
other_start b closing h = refl
other_start b word_byte h = refl
other_start b space h = refl
other_start b line_end h = refl
other_start b bad h = refl

other_closed : (F : Items) (b : ℕ) (c : Class) → (c ≡ line_end → ⊥) → step (form_closed F) c b ≡ stop
other_closed F b opening h = refl
other_closed F b closing h = refl
other_closed F b word_byte h = refl
other_closed F b space h = refl
other_closed F b line_end h = absurd (h refl)
other_closed F b bad h = refl

pub line_none : (text : List ℕ) → length text ≤ 0 → read text ≡ not_read LineBroken 0
line_none text h = stop_end text start 0 h

module _ (text : List ℕ) (b : ℕ) (B : ByteThere text 0 (Ok b)) where
  pub line_first : (b ≡ 40 → ⊥) → read text ≡ not_read (reason (class b) 0 0) 0
  line_first n = stop_there text 0 b B start (other_start (byte text 0) (class b) (λ e. n (byte_in b e)))

  module _ (is : b ≡ 40) where
    line_opens : read text ≡ reading text (list_opened []) 1
    line_opens = on_there text 0 b B start (list_opened []) opening (ap class is ∙ class_40) refl

    pub line_refused : (e : Stop) → ListRefused text 1 1 e → Refuses e (read text)
    line_refused e L = refuses_by e line_opens (L [] refl)

    module _ (F : Items) (end : ℕ) (L : ListRead text 1 1 F end) where
      to_end : read text ≡ reading text (form_closed F) end
      to_end = line_opens ∙ L.leads [] refl

      pub line_ends : length text ≤ end → read text ≡ not_read LineBroken end
      line_ends k = to_end ∙ stop_end text (form_closed F) end k

      module _ (e : ℕ) (E : ByteThere text end (Ok e)) where
        pub line_other : (e ≡ 10 → ⊥) → read text ≡ not_read (reason (class e) 0 0) end
        line_other n = to_end ∙ stop_there text end e E (form_closed F) (other_closed F (byte text end) (class e) (λ k. n (byte_in e k)))

        pub line_done : e ≡ 10 → LineRead text F (end + 1)
        line_done n = record {
          within = omega arith;
          some = omega arith;
          formed = to_end ∙ at_byte text (form_closed F) end E.0
              ∙ ap (λ c. read_on (step (form_closed F) c (byte text end)) (reason c 0 0) end (drop (end + 1) text) (λ t. reading text t (end + 1))) (class_there text end e E line_end (ap class n ∙ class_10));
        }
