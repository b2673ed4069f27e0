-- The rows of a table, from what a search finds.
use Rattle.std.proofs.Common.{◌≡◌, ℕ, ◌<◌, ◌^◌, length, get_or, All, Option, Some, None, refl, sym, subst, arith}
use Rattle.std.proofs.lemmas.List.FromFn.{length-map-range_with_len, get_or-map-range_with_len}
use Rattle.mr_model.specs.Code.{Code, survivors, undetermined}
use Rattle.mr_model.specs.Choice.{choice_of}
use Rattle.mr_bits.specs.Matrices.{IsMatrixCode}
use Rattle.mr_eq.specs.Problems.{IsLoss}
use Rattle.mr_eq.specs.Singles.{loss_of}
use Rattle.mr_eq.proofs.Losses.{determined-from, undetermined-is}
use Rattle.mr_eq.proofs.SingleLaws.{survivors-below, survivors-apart}
use Rattle.mr_front.proofs.FoundLaws.{found-within, found-lean}
use Rattle.mr_losses.specs.Losses.{symbols_of_devices}
use Rattle.mr_losses.proofs.LostSymbols.{lost-below}
use Rattle.mr_table.specs.Losses.{losses}
use Rattle.mr_table.specs.Rows.{IsAnswerTo, IsRow, answer_by, answer_to, row_of, table_of}

module _ (m : Code) (code : IsMatrixCode m) (budget : ℕ) where
  loss-is : (lost : ℕ) → lost < 2 ^ length m.rows → undetermined m (survivors m lost) lost ≡ None → IsLoss (loss_of m lost)
  loss-is lost below none = record {
    code_is = code;
    avail_below = survivors-below m lost;
    targets_below = below;
    apart = survivors-apart m lost;
    determined = determined-from m (survivors m lost) lost none;
  }

  -- the answer where these symbols are lost
  pub answers : (lost : ℕ) → lost < 2 ^ length m.rows → IsAnswerTo m lost budget (answer_to m budget lost)
  answers lost below = go (undetermined m (survivors m lost) lost) refl
    where
      go : (o : Option ℕ) → undetermined m (survivors m lost) lost ≡ o
          → IsAnswerTo m lost budget (answer_by o (choice_of m (survivors m lost) lost budget))
      go None e = let loss = loss-is lost below e in record {
        within = found-within (loss_of m lost) loss budget _ refl;
        lean = found-lean (loss_of m lost) loss budget _ refl;
      }
      go (Some t) e = undetermined-is m code (survivors m lost) lost t e

  -- each row of the table
  pub rows : All (IsRow m budget) (table_of m budget)
  rows k d low =
      let count = length (losses m.devices) in
      let short : k < count = omega (arith, low, length-map-range_with_len (row_of m budget (losses m.devices)) 0 count) in
      let is = get_or-map-range_with_len (row_of m budget (losses m.devices)) 0 count k k d short (omega arith) in
      subst (IsRow m budget) (sym is) (record {
        job = short;
        answer = answers (symbols_of_devices m (get_or (losses m.devices) k 0)) (lost-below m (get_or (losses m.devices) k 0));
      })
