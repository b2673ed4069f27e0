-- What is found by steps whose result is to be written.
use Rattle.std.proofs.Common.{◌≡◌, Result, Ok, Err, refl, sym, subst}
use Rattle.mr_steps.specs.Readings.{Reading}
use Rattle.mr_steps.specs.Refusals.{followed_by, refusal_of}
use Rattle.mr_steps.specs.Sinks.{Output}
use Rattle.mr_steps.specs.declared.fault.Fault.{Fault}
use Rattle.mr_steps.proofs.Results.{ok-same, refusal-followed}
use Rattle.mr_top.specs.Findings.{Finding, MayWrite, to_write, writing}

-- The steps gave an output, and it is what was found.
pub record IsWriting (reading : Reading Output) (found : Finding) : Type 0 where
  pub output : Output
  pub result_is : reading.result ≡ Ok output
  pub is : found ≡ writing output

pub writing-of : (reading : Reading Output) (found : Finding) → (to_write reading).result ≡ Ok found → IsWriting reading found
writing-of reading found e = go reading.result refl e
  where
    write : Output → Result Finding Fault
    write output = Ok (writing output)

    go : (r : Result Output Fault) → reading.result ≡ r → followed_by r write ≡ Ok found → IsWriting reading found
    go (Ok output) same f = record { output = output; result_is = same; is = sym (ok-same f) }
    go (Err fault) same f = let clash : ◌≡◌ {A = Result Finding Fault} (Err fault) (Ok found) = f in cc

-- it alone may be written
pub writes-own : (reading : Reading Output) (found : Finding) (output : Output) (w : IsWriting reading found) → MayWrite found output → output ≡ w.output
writes-own reading found output w may = subst (λ f. MayWrite f output) w.is may

-- the first refusal of such steps
pub refusal-written : (reading : Reading Output) → refusal_of (to_write reading).result ≡ refusal_of reading.result
refusal-written reading = refusal-followed reading.result (λ output. writing output)
