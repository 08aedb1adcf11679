-- What a part is that is found as a line.
use Rattle.std.proofs.Common.{◌≡◌, ℕ, zero, suc, ◌-◌, ◌<◌, ◌≤◌, ◌⊎◌, List, [], ◌∷◌, ◌++◌, length, drop, sym, refl, ap, ◌∙◌, inl, inr, arith}
use Rattle.std.proofs.lemmas.List.{length-append, append_assoc, take-append-drop, drop_all}
use Rattle.std.proofs.lemmas.List.Sums.{sum_by-append, sum_by-cons}
use Rattle.std.proofs.lemmas.Bool.{cases_lt}
use Rattle.faults.specs.Lines.{after_ends, first_line, place_of_line, bytes_of_line, ends_in, AtEnd, IsLine, IsNothing, LinesFound}
use Rattle.faults.proofs.Ends.{one, end, more, at_end, cut_at_end, no_end_before, ends_counted, no_end_at_all, nothing_after, nothing_of_nothing}

-- nothing, or whole lines
abbrev WholeLines : List ℕ → Type 0
WholeLines front = (front ≡ []) ⊎ ((lines : List ℕ) × (front ≡ lines ++ (10 ∷ [])))

one_before : (line front : List ℕ) → WholeLines front → WholeLines (line ++ (10 ∷ front))
one_before line front (inl e) = inr (line, ap (λ s. line ++ (10 ∷ s)) e)
one_before line front (inr h) =
    inr (line ++ (10 ∷ h.0), ap (λ s. line ++ (10 ∷ s)) h.1 ∙ sym (append_assoc line (10 ∷ h.0) (10 ∷ [])))

-- the text up to the line that k lines precede
up_to : (k : ℕ) (text : List ℕ) → k ≤ ends_in text
    → (front : List ℕ) × (text ≡ front ++ after_ends k text) × (ends_in front ≡ k) × WholeLines front
up_to zero text l = ([], refl, refl, inl refl)
up_to (suc k) text l = elim (cases_lt (end text) (length text)) [
  | inl some ↦
      let line = first_line text in
      let (front, parts, count, whole) = up_to k (more text) (omega (arith, ends_counted text some)) in (
        line ++ (10 ∷ front),
        cut_at_end text some ∙ ap (λ s. line ++ (10 ∷ s)) parts ∙ sym (append_assoc line (10 ∷ front) _),
        omega (arith, sum_by-append one line (10 ∷ front), sum_by-cons one 10 front, no_end_before text, count),
        one_before line front whole,
      )
  | inr none ↦ absurd (omega (arith, no_end_at_all text none))
]

too_few : (k : ℕ) (text : List ℕ) → ends_in text < k → after_ends k text ≡ []
too_few zero text l = absurd (omega arith)
too_few (suc k) text l = elim (cases_lt (end text) (length text)) [
  | inl some ↦ too_few k (more text) (omega (arith, ends_counted text some))
  | inr none ↦ ap (after_ends k) (nothing_after text none) ∙ nothing_of_nothing k
]

line_reaches : (text : List ℕ) → AtEnd (drop (end text) text)
line_reaches text = elim (cases_lt (end text) (length text)) [
  | inl some ↦ inr (more text, at_end text some)
  | inr none ↦ inl (drop_all (end text) text none)
]

a_line : (k : ℕ) (text : List ℕ) → k ≤ ends_in text
    → IsLine k text (place_of_line (suc k) text) (bytes_of_line (suc k) text)
a_line k text l =
    let (front, parts, count, whole) = up_to k text l in
    let rest = after_ends k text in
    record {
      front = front;
      rest = drop (end rest) rest;
      parts = parts ∙ ap (λ s. front ++ s) (sym (take-append-drop (end rest) rest));
      begins = omega (arith, simp length-append at (ap length parts));
      lines_before = (count, whole);
      no_end = no_end_before rest;
      ends = line_reaches rest;
    }

-- where nothing is left of a text
at_text_end : (text left : List ℕ) → left ≡ [] → IsNothing text (length text - length left) (first_line left)
at_text_end text left e = (omega (arith, ap length e), ap first_line e)

pub lines_found : LinesFound
lines_found = record {
  a_line = a_line;
  missing = λ k text l. at_text_end text (after_ends k text) (too_few k text l);
  no_line = λ text. at_text_end text [] refl;
}
