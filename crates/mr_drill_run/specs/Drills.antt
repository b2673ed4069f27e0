-- What a drill is made of: its code, its image, the device that is lost, its data and its reads.
use Rattle.std.specs.Prelude.{ℕ, ◌%◌, List, true}
use Rattle.mr_drill.specs.Asks.{asks_drawn}
use Rattle.mr_drill.specs.Words.{after_words, bytes_drawn}
use Rattle.mr_drill.specs.declared.asks.TheConstants.{STRIPES}
use Rattle.mr_encode.specs.Data.{columns_of}
use Rattle.mr_eq.specs.Singles.{SinglesOf}
use Rattle.mr_form.specs.Layouts.{rdp_code}
use Rattle.mr_image.specs.Heads.{layout}
use Rattle.mr_image.specs.Images.{Image, Layout, code_image, every_stripe}
use Rattle.mr_mend.specs.declared.asks.Ask.{Ask}
use Rattle.mr_model.specs.Code.{Code, device_symbols, dimensions}
use Rattle.mr_plan.specs.Plans.{PlanParts}
use Rattle.mr_ready.specs.Orders.{OrderParts}
use Rattle.mr_steps.specs.declared.choice_line.ChoiceLine.{ChoiceLine}
use Rattle.mr_drill_run.specs.declared.codes.TheConstants.{PRIME, SYMBOL_BYTES}
use Rattle.mr_drill_run.specs.declared.running.TheConstants.{DATA_WORDS, DEVICES, READS}
use Rattle.mr_drill_run.specs.declared.tools.TheConstants.{WORKERS}

-- the code, row-diagonal parity for the prime 5
unfoldable pub drill_code : Code
drill_code = rdp_code PRIME

-- the form of the image
unfoldable pub drill_layout : Layout
drill_layout = layout (dimensions drill_code) SYMBOL_BYTES STRIPES

-- the device that the drill of this number loses
abbrev pub lost_device : ℕ → ℕ
lost_device number = number % DEVICES

-- its symbols
abbrev pub lost_symbols : ℕ → ℕ
lost_symbols number = device_symbols drill_code (lost_device number)

-- ---- what is drawn

-- the bytes of the first n words of a generator that holds x
unfoldable pub bytes_from : ℕ → ℕ → List ℕ
bytes_from x n = bytes_drawn x n

-- its first n reads
unfoldable pub reads_from : ℕ → ℕ → List Ask
reads_from x n = asks_drawn x n

-- the data of the drill of this number: the first words
abbrev pub data_of : ℕ → List ℕ
data_of number = bytes_from number DATA_WORDS

-- its reads, which are drawn after the data
abbrev pub reads_of : ℕ → List Ask
reads_of number = reads_from (after_words number DATA_WORDS) READS

-- the image of the codewords of the data
abbrev pub image_drilled : ℕ → Image
image_drilled number = code_image drill_layout (every_stripe drill_code)
    (columns_of drill_layout drill_code.columns (data_of number))

-- ---- what is rebuilt

-- an image of this head by these plans, with the reads served beside the menders
abbrev pub order_of : Layout → List PlanParts → List ChoiceLine → List SinglesOf → List Ask
    → OrderParts
order_of l plans lines singles asks = record {
  head = l;
  plans = plans;
  lines = lines;
  singles = singles;
  asks = asks;
  workers = WORKERS;
  live = true;
}
