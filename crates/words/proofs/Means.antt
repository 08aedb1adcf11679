-- What is read of a line, in words without the reader.
use Rattle.std.proofs.Common.{ℕ, List, drop}
use Rattle.grammar.specs.Items.{Items}
use Rattle.grammar.specs.Reader.{read}
use Rattle.grammar.proofs.Claims.{only_good_lines, refused_at_first}
use Rattle.words.specs.Stops.{Stop}
use Rattle.words.specs.Tree.{Refuses, LineRead, LineStands, LineFails}
use Rattle.words.specs.declared.stop.Failed.TheVariants.{Memory, Because}

pub line_stands : (text : List ℕ) (F : Items) (end : ℕ) → LineRead text F end → LineStands text F end
line_stands text F end L =
    let h = only_good_lines text F (drop end text) L.formed in
    record { within = L.within; good = h.0; whole = h.1 }

pub line_fails : (text : List ℕ) (e : Stop) → Refuses e (read text) → LineFails text e
line_fails text Memory h = tt
line_fails text (Because a) h = refused_at_first text a.refusal a.place h
