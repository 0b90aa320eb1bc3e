-- The listing of a sheet longer than any good one is the line that crate stream gives. Assumes nothing.
use Prim.Native.Nat.{ℕ, ◌<◌}
use mathlib.Core.Path.{◌≡◌, refl}
use mathlib.Core.List.{List, append-nil}
use lib.ListN.{length}
use Rattle.refusals.specs.declared.refusals.Refusal.{Refusal}
use Rattle.sheet.specs.Read.{read_of}
use Rattle.text.specs.Lines.{record_lines}
use Rattle.answers.specs.Answers.{refused_of, failed_of}
use Rattle.solver.specs.Solve.{solve_with, after_read}
use Rattle.listing_text.specs.Listing.{head_lines, results_for, lines_of, listing_of}
use Rattle.stream.specs.Stream.{fed_of, refusal_of, line_of}
use Rattle.stream.specs.declared.Progress.TheVariants.{Options}
use Rattle.long_sheets.proofs.Long.{long_refused}
use Rattle.std.specs.Prelude.{Err}

pub refused_listed : (s : List ℕ) (r : Refusal) → read_of s ≡ Err r → listing_of s ≡ line_of r
unfolding listing_of lines_of head_lines results_for solve_with after_read refused_of failed_of record_lines line_of
refused_listed s r e = rw (e, append-nil, append-nil)

pub long_listed : (s : List ℕ) → 9199 < length s → listing_of s ≡ line_of (refusal_of (fed_of (Options 0) s))
long_listed s l = refused_listed s (refusal_of (fed_of (Options 0) s)) (long_refused s l)
