-- What a pass of a board knows, and how each step changes that.
use Rattle.std.specs.Prelude.{ℕ, ◌+◌, ◌-◌, ◌==◌, nat_lt, max, [], ◌∷◌, ◌++◌, Some, None, if◌then◌else◌}
use Rattle.mr_counts.specs.Shares.{whole_share}
use Rattle.mr_board.specs.Terms.{BoardTerms, stripes_of}
use Rattle.mr_board.specs.declared.view.PassView.{PassView}

-- the first pass of a board
abbrev pub first_view : BoardTerms → PassView
first_view terms = record {
  terms = terms;
  draws = [];
  claimed = None;
  filled = 0;
  seen = [];
  gave = [];
  loads = 0;
  met = (0, 0);
  left = whole_share - 1;
  parts = 1;
}

-- a pass that drew one number more: a stripe, which is open then, or none
abbrev pub with_draw : PassView → ℕ → PassView
with_draw v n = record v {
  draws = v.draws ++ n ∷ [];
  claimed = if nat_lt n (stripes_of v.terms) then Some n else None;
  filled = 0;
}

-- a pass that stored word i of its open stripe
abbrev pub with_word : PassView → ℕ → PassView
with_word v i = record v { filled = max v.filled (i + 1) }

-- a pass that marked its open stripe t done
abbrev pub with_done : PassView → ℕ → PassView
with_done v t = record v { claimed = None; filled = 0; seen = v.seen ++ t ∷ [] }

-- a pass that gave its open stripe t up, of which it found that it is not done
abbrev pub with_given_up : PassView → ℕ → PassView
with_given_up v t = record v {
  claimed = None;
  filled = 0;
  gave = v.gave ++ t ∷ [];
  loads = v.loads + 1;
  met = (t, 0);
}

-- a pass that found the state of stripe t to be x: it is done at 1
abbrev pub with_look : PassView → ℕ → ℕ → PassView
with_look v t x = record v {
  seen = if x == 1 then v.seen ++ t ∷ [] else v.seen;
  loads = v.loads + 1;
  met = (t, x);
}

-- what a split leaves to a pass, and what the pass that is split off gets
abbrev pub kept_view : PassView → PassView
kept_view v = record v { left = v.left - 1 }

abbrev pub split_view : PassView → PassView
split_view v = record (first_view v.terms) { seen = v.seen; left = 0 }

-- what a join makes of two passes, and what it leaves of the second: it is spent
abbrev pub joined_view : PassView → PassView → PassView
joined_view v w = record v {
  draws = v.draws ++ w.draws;
  seen = v.seen ++ w.seen;
  gave = v.gave ++ w.gave;
  left = v.left + w.left;
  parts = v.parts + w.parts;
}

-- a spent pass names an image without stripes
abbrev pub no_terms : BoardTerms
no_terms = record {
  head = record { version = 1; devices = 0; symbols_per_device = 0; symbol_bytes = 0; stripes = 0 };
  plans = [];
  rights = [];
}

abbrev pub spent_view : PassView
spent_view = record (first_view no_terms) { left = 0; parts = 0 }
