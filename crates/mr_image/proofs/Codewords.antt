-- The law of mended images and near replies, over whole images.
use Rattle.std.proofs.Common.{◌≡◌, ℕ, zero, suc, ◌+◌, ◌*◌, ◌^◌, ◌<◌, List, ◌++◌, flat_map, length, refl, sym, ap, ap₂, subst, ◌∙◌, arith}
use Rattle.std.specs.List.{range_with_len}
use Rattle.mr_model.specs.Code.{Code, cost}
use Rattle.mr_model.proofs.CheapestLaws.{IsCost}
use Rattle.mr_model.proofs.CostLaws.{price_law}
use Rattle.mr_bits.specs.Matrices.{IsMatrixCode}
use Rattle.mr_bits.proofs.MatrixLaws.{matrix-priced}
use Rattle.mr_image.specs.Images.{Layout, IsLayout, stripe_symbols, Image, image_body, mended, code_image}
use Rattle.mr_image.specs.Heads.{head_bytes}
use Rattle.mr_image.specs.Laws.{GivesCodewords}
use Rattle.mr_image.proofs.MendedLaws.{mended-code, near-code}

-- among survivors of a matrix a set costs more than each of its own subsets
survivors-cost : (l : Layout) (m : Code) (survivors : ℕ) → IsMatrixCode m → m.devices ≡ l.devices → m.symbols_per_device ≡ l.symbols_per_device
    → survivors < 2 ^ stripe_symbols l → IsCost survivors (cost m)
survivors-cost l m survivors h devices symbols few =
    let count : stripe_symbols l ≡ length m.rows = ap₂ (λ a b. a * b) (sym devices) (sym symbols) ∙ sym h.count in
    price_law m survivors (matrix-priced m h) (subst (λ n. survivors < 2 ^ n) count few)

flat_map-same : (f g : ℕ → List ℕ) (n a : ℕ) → ((k : ℕ) → k < n → f (a + k) ≡ g (a + k)) → flat_map f (range_with_len a n) ≡ flat_map g (range_with_len a n)
flat_map-same f g zero a same = refl
flat_map-same f g (suc n) a same =
    let first : a + 0 ≡ a = omega arith in
    ap₂ (λ xs ys. xs ++ ys) (ap f (sym first) ∙ same 0 (omega arith) ∙ ap g first)
    (flat_map-same f g n (a + 1) (λ k low.
    let next : a + 1 + k ≡ a + suc k = omega arith in
    ap f next ∙ same (suc k) (omega (arith, low)) ∙ ap g (sym next)))

-- images that agree at each symbol have one body
pub image_body-same : (l : Layout) (f g : Image) → ((s i : ℕ) → s < l.stripes → i < stripe_symbols l → f s i ≡ g s i) → image_body l f ≡ image_body l g
image_body-same l f g same =
    flat_map-same (λ s. flat_map (f s) (range_with_len 0 (stripe_symbols l))) (λ s. flat_map (g s) (range_with_len 0 (stripe_symbols l))) l.stripes 0 (λ s here.
    flat_map-same (f (0 + s)) (g (0 + s)) (stripe_symbols l) 0 (λ i low. same (0 + s) (0 + i) (omega (arith, here)) (omega (arith, low))))

pub gives-codewords : (l : Layout) → IsLayout l → GivesCodewords l
gives-codewords l limits = record {
  symbols = λ codes survivors lost sets recipes image columns plans from s i here low.
      mended-code l codes survivors lost sets recipes image columns limits.few_symbols plans from s here i low;
  file = λ codes survivors lost sets recipes image columns plans from.
      ap (λ body. head_bytes l ++ body) (image_body-same l (mended l recipes image) (code_image l codes columns)
      (λ s i here low. mended-code l codes survivors lost sets recipes image columns limits.few_symbols plans from s here i low));
  replies = λ codes survivors lost sets recipes image columns matrices plans from budget s t here low gone.
      near-code l codes survivors lost sets recipes image columns limits.few_symbols plans from s here budget t low gone
      (survivors-cost l (codes s) (survivors s) (matrices.matrix s here) (matrices.same_devices s here) (matrices.same_symbols s here) (plans.covered s here).few_survivors);
}
