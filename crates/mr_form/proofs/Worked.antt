-- The definitions, computed on small texts and on the smallest matrices of the makers.
use Rattle.std.proofs.Common.{◌≡◌, [], ◌∷◌, Ok, Err, codes, refl}
use Rattle.std.specs.Fmt.{digits}
use Rattle.mr_bits.specs.declared.errors.What.TheVariants.{Symbols, Columns}
use Rattle.mr_form.specs.declared.faults.LineKind.TheVariants.{Missing, NoEnd, Head, Price, Row, Extra}
use Rattle.mr_form.specs.declared.faults.MatrixFault.TheVariants.{Bad, Large as TooLarge}
use Rattle.mr_text.specs.Numbers.{is_number, number_of}
use Rattle.mr_model.specs.Sets.{set_below, sum, any_below, find_below}
use Rattle.mr_form.specs.MatrixText.{head_text, price_text, row_text, matrix_text, line_fault, is_end, size_of, head_of, is_price_line, are_bits, is_row, ones_below, matrix_of}
use Rattle.mr_form.specs.Layouts.{cells, data_rows, with_parity, rdp_rows, evenodd_rows}

-- ---- the makers: of the data symbols s0 to s3, s4 = s0 + s2, s5 = s1 + s3, s6 = s0 + s1 + s3 and s7 = s1 + s2

rdp_row : rdp_rows 3 ≡ 1 ∷ 2 ∷ 4 ∷ 8 ∷ 5 ∷ 10 ∷ 11 ∷ 6 ∷ []
unfolding rdp_rows with_parity data_rows cells set_below sum
rdp_row = refl

evenodd_row : evenodd_rows 3 ≡ 1 ∷ 2 ∷ 4 ∷ 8 ∷ 16 ∷ 32 ∷ 21 ∷ 42 ∷ 57 ∷ 30 ∷ []
unfolding evenodd_rows with_parity data_rows cells set_below sum
evenodd_row = refl

-- ---- texts

module _ where
  good : matrix_of (codes "matrix 1 2 1 2\n10\n11\n") ≡ Ok (record { devices = 2; symbols_per_device = 1; columns = 2; rows = 1 ∷ 3 ∷ []; prices = 1 ∷ 1 ∷ [] })
  unfolding matrix_of line_fault head_of size_of number_of is_number is_end is_row are_bits ones_below set_below find_below any_below
  good = refl

  spelled : matrix_text (record { devices = 2; symbols_per_device = 1; columns = 2; rows = 1 ∷ 3 ∷ []; prices = 1 ∷ 1 ∷ [] }) ≡ codes "matrix 1 2 1 2\n10\n11\n"
  unfolding matrix_text head_text row_text digits
  spelled = refl

  no_byte : matrix_of [] ≡ Err (Bad 1 Missing)
  unfolding matrix_of line_fault
  no_byte = refl

  no_feed : matrix_of (codes "matrix 1 1 1 1") ≡ Err (Bad 1 NoEnd)
  unfolding matrix_of line_fault
  no_feed = refl

  zero_first : matrix_of (codes "matrix 1 01 1 1\n1\n") ≡ Err (Bad 1 Head)
  unfolding matrix_of line_fault head_of size_of number_of is_number
  zero_first = refl

  two_spaces : matrix_of (codes "matrix 1  1 1 1\n1\n") ≡ Err (Bad 1 Head)
  unfolding matrix_of line_fault head_of size_of number_of is_number
  two_spaces = refl

  many_symbols : matrix_of (codes "matrix 1 129 1 129\n") ≡ Err (TooLarge (record { what = Symbols; number = 129 }))
  unfolding matrix_of line_fault head_of size_of number_of is_number
  many_symbols = refl

  many_columns : matrix_of (codes "matrix 1 1 1 129\n") ≡ Err (TooLarge (record { what = Columns; number = 129 }))
  unfolding matrix_of line_fault head_of size_of number_of is_number
  many_columns = refl

  short_row : matrix_of (codes "matrix 1 2 1 2\n10\n1\n") ≡ Err (Bad 3 Row)
  unfolding matrix_of line_fault head_of size_of number_of is_number is_end is_row are_bits find_below any_below
  short_row = refl

  missing_row : matrix_of (codes "matrix 1 2 1 2\n10\n") ≡ Err (Bad 3 Missing)
  unfolding matrix_of line_fault head_of size_of number_of is_number is_end is_row are_bits find_below any_below
  missing_row = refl

  open_row : matrix_of (codes "matrix 1 2 1 2\n10\n11") ≡ Err (Bad 3 NoEnd)
  unfolding matrix_of line_fault head_of size_of number_of is_number is_end is_row are_bits find_below any_below
  open_row = refl

  one_row_more : matrix_of (codes "matrix 1 2 1 2\n10\n11\n11\n") ≡ Err (Bad 4 Extra)
  unfolding matrix_of line_fault head_of size_of number_of is_number is_end is_row are_bits find_below any_below
  one_row_more = refl

  -- ---- version 2

  priced : matrix_of (codes "matrix 2 2 1 2\nprice 3 1\n10\n11\n") ≡ Ok (record { devices = 2; symbols_per_device = 1; columns = 2; rows = 1 ∷ 3 ∷ []; prices = 3 ∷ 1 ∷ [] })
  unfolding matrix_of line_fault head_of size_of number_of is_number is_price_line is_end is_row are_bits ones_below set_below find_below any_below
  priced = refl

  priced_spelled : matrix_text (record { devices = 2; symbols_per_device = 1; columns = 2; rows = 1 ∷ 3 ∷ []; prices = 3 ∷ 1 ∷ [] }) ≡ codes "matrix 2 2 1 2\nprice 3 1\n10\n11\n"
  unfolding matrix_text head_text price_text row_text digits
  priced_spelled = refl

  all_ones : matrix_of (codes "matrix 2 2 1 2\nprice 1 1\n10\n11\n") ≡ Err (Bad 2 Price)
  unfolding matrix_of line_fault head_of size_of number_of is_number is_price_line
  all_ones = refl

  zero_price : matrix_of (codes "matrix 2 2 1 2\nprice 3 0\n10\n11\n") ≡ Err (Bad 2 Price)
  unfolding matrix_of line_fault head_of size_of number_of is_number is_price_line
  zero_price = refl

  great_price : matrix_of (codes "matrix 2 2 1 2\nprice 3 1001\n10\n11\n") ≡ Err (Bad 2 Price)
  unfolding matrix_of line_fault head_of size_of number_of is_number is_price_line
  great_price = refl

  few_prices : matrix_of (codes "matrix 2 2 1 2\nprice 3\n10\n11\n") ≡ Err (Bad 2 Price)
  unfolding matrix_of line_fault head_of size_of number_of is_number is_price_line
  few_prices = refl

  priced_row : matrix_of (codes "matrix 2 2 1 2\nprice 3 1\n10\n1\n") ≡ Err (Bad 4 Row)
  unfolding matrix_of line_fault head_of size_of number_of is_number is_price_line is_row are_bits find_below any_below
  priced_row = refl

  priced_more : matrix_of (codes "matrix 2 2 1 2\nprice 3 1\n10\n11\n1") ≡ Err (Bad 5 Extra)
  unfolding matrix_of line_fault head_of size_of number_of is_number is_price_line is_end is_row are_bits find_below any_below
  priced_more = refl
