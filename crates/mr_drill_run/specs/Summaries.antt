-- What a drill comes to, and its lines.
use Rattle.std.specs.Int.{to_be_bytes, w64}
use Rattle.std.specs.Prelude.{List, [], codes, decimal, ℕ, ◌∷◌}
use Rattle.hex.specs.Hex.{encode_lower}
use Rattle.mr_choices.specs.Chosen.{choice_for}
use Rattle.mr_drill.specs.Words.{digest_of}
use Rattle.mr_drill.specs.declared.asks.TheConstants.{STRIPES}
use Rattle.mr_image.specs.Images.{image_body}
use Rattle.mr_mend.specs.Serving.{reply_bytes}
use Rattle.mr_model.specs.Code.{cost}
use Rattle.mr_model.specs.Search.{chosen}
use Rattle.mr_steps.specs.Faults.{joined}
use Rattle.mr_drill_run.specs.Drills.{drill_code, drill_layout, image_drilled, lost_device, lost_symbols, reads_of}
use Rattle.mr_drill_run.specs.declared.running.TheConstants.{BUDGET, READS}
use Rattle.mr_drill_run.specs.declared.summaries.Summary.{Summary}

-- The drill of a number loses one device. It costs what the set costs that is chosen for its symbols
-- within the budget. The digests are those of the codewords' own symbols: of all, stripe by stripe,
-- and of those that the reads ask for, in their order.
abbrev pub summary_of : ℕ → Summary
summary_of number = record {
  number = number;
  lost = lost_device number;
  cost = cost drill_code (chosen (choice_for drill_code (lost_symbols number) BUDGET));
  image = digest_of (image_body drill_layout (image_drilled number));
  replies = digest_of (reply_bytes (image_drilled number) (reads_of number));
}

-- ---- the lines

-- a digest as sixteen lower-case hexadecimal digits
abbrev pub digest_text : ℕ → List ℕ
digest_text digest = encode_lower (to_be_bytes w64 digest)

-- a line: its name, and its value
abbrev pub line : List ℕ → List ℕ → List ℕ
line name value = joined (name ∷ value ∷ codes "\n" ∷ [])

-- the seven lines of a drill
unfoldable pub summary_text : Summary → List ℕ
summary_text summary = joined (
    line (codes "drill ") (decimal summary.number)
    ∷ line (codes "lost ") (decimal summary.lost)
    ∷ line (codes "least cost ") (decimal summary.cost)
    ∷ line (codes "stripes ") (decimal STRIPES)
    ∷ line (codes "replies ") (decimal READS)
    ∷ line (codes "image ") (digest_text summary.image)
    ∷ line (codes "reply ") (digest_text summary.replies)
    ∷ [])
