-- An image that is put stripe after stripe.
use Rattle.std.proofs.Common.{◌≡◌, ℕ, suc, ◌+◌, ◌-◌, ◌*◌, ◌<◌, ◌≤◌, List, [], ◌++◌, flat_map, length, take, get_or, sym, ap, subst, ◌∙◌, refl, arith, zero-add, zero-mul, append_assoc, length-append}
use Rattle.std.specs.Prelude.{Option, None, Result, Ok, Err, OnOk, OnErr}
use Rattle.std.specs.List.{range_with_len}
use Rattle.std.proofs.Math.Nat.{add-mul}
use Rattle.std.proofs.Math.Seq.{take-append-add}
use Rattle.std.proofs.lemmas.List.{append-nil, take-append-le}
use Rattle.mr_model.specs.Sets.{count_below}
use Rattle.mr_io.specs.Taking.{Held, Takes, TakesPart, Puts}
use Rattle.mr_io.specs.Sights.{Sight}
use Rattle.mr_io.proofs.Taking.{takes_more, takes_nothing}
use Rattle.mr_image.specs.Images.{Layout, stripe_symbols, image_body}
use Rattle.mr_image.specs.Heads.{head_bytes, image_bytes}
use Rattle.mr_encode.proofs.FrontLaws.{flat_map-more, flat_map-split}
use Rattle.mr_gather.specs.Arrays.{gathered, is_read_of}
use Rattle.mr_gather.specs.Slots.{Took, Tells}
use Rattle.mr_steps.specs.Sinks.{TakesFront}
use Rattle.mr_gather.proofs.SlotLaws.{took-none, took-more, took-same, tells-kept}

-- a part is a front
pub front-part : (a b : Option Held) (bytes : List ℕ) → TakesPart a b bytes → TakesFront a b bytes
front-part a b bytes h = (h.0, omega (arith, h.1), h.2)

-- nothing is a front
pub front-nothing : (a : Option Held) (bytes : List ℕ) → TakesFront a a bytes
front-nothing a bytes = (0, omega arith, takes_nothing a)

-- a front of the middle text, after all of the first
pub front-middle : (a b c : Option Held) (xs ys zs : List ℕ) → Takes a b xs → TakesFront b c ys → TakesFront a c (xs ++ (ys ++ zs))
front-middle a b c xs ys zs first then = (
  length xs + then.0,
  omega (arith, then.1, length-append xs (ys ++ zs), length-append ys zs),
  subst (λ bytes. Takes a c bytes) (sym (take-append-add xs (ys ++ zs) then.0 ∙ ap (λ t. xs ++ t) (take-append-le then.0 ys zs then.1))) (takes_more a b c _ _ first then.2),
)

-- a put that was all or a part
pub puts-front : {T E : Type 0} (a b : Option Held) (first : Result T E) (bytes : List ℕ) → Puts a b first bytes → OnErr first (TakesFront a b bytes)
puts-front a b (Ok x) bytes h = tt
puts-front a b (Err e) bytes h = front-part a b bytes h.err

module _ (l : Layout) (image : ℕ → ℕ → List ℕ) where
  -- the bytes of stripe s
  abbrev pub stripe_text : ℕ → List ℕ
  stripe_text s = flat_map (image s) (range_with_len 0 (stripe_symbols l))

  -- the head and the first n stripes
  abbrev pub sent : ℕ → List ℕ
  sent n = head_bytes l ++ flat_map stripe_text (range_with_len 0 n)

  pub sent-none : (a b : Option Held) (n : ℕ) → n ≡ 0 → Takes a b (head_bytes l) → Takes a b (sent n)
  sent-none a b n e h = subst (λ k. Takes a b (sent k)) (sym e) (subst (Takes a b) (sym (append-nil (head_bytes l))) h)

  pub sent-more : (a b c : Option Held) (n : ℕ) → Takes a b (sent n) → Takes b c (stripe_text n) → Takes a c (sent (n + 1))
  sent-more a b c n first then =
      subst (Takes a c)
      (append_assoc (head_bytes l) (flat_map stripe_text (range_with_len 0 n)) (stripe_text n)
      ∙ ap (λ k. head_bytes l ++ (flat_map stripe_text (range_with_len 0 n) ++ stripe_text k)) (sym (zero-add n))
      ∙ ap (λ xs. head_bytes l ++ xs) (sym (flat_map-more stripe_text 0 n)))
      (takes_more a b c (sent n) (stripe_text n) first then)

  -- stripe n, those before it and those behind it
  sent_at : (n : ℕ) → n < l.stripes
      → image_bytes l image ≡ sent n ++ (stripe_text n ++ flat_map stripe_text (range_with_len (0 + (n + 1)) (l.stripes - (n + 1))))
  sent_at n low =
      let count : l.stripes ≡ (n + 1) + (l.stripes - (n + 1)) = omega (arith, low) in
      let rest : List ℕ = flat_map stripe_text (range_with_len (0 + (n + 1)) (l.stripes - (n + 1))) in
      let front : List ℕ = flat_map stripe_text (range_with_len 0 n) in
      ap (λ k. head_bytes l ++ flat_map stripe_text (range_with_len 0 k)) count
      ∙ ap (λ xs. head_bytes l ++ xs) (flat_map-split stripe_text 0 (n + 1) (l.stripes - (n + 1)))
      ∙ ap (λ xs. head_bytes l ++ (xs ++ rest)) (flat_map-more stripe_text 0 n ∙ ap (λ k. front ++ stripe_text k) (zero-add n))
      ∙ ap (λ xs. head_bytes l ++ xs) (append_assoc front (stripe_text n) rest)
      ∙ sym (append_assoc (head_bytes l) front (stripe_text n ++ rest))

  pub sent-front : (a b c : Option Held) (n : ℕ) → n < l.stripes → Takes a b (sent n) → TakesFront b c (stripe_text n) → TakesFront a c (image_bytes l image)
  sent-front a b c n low first then = subst (TakesFront a c) (sym (sent_at n low)) (front-middle a b c (sent n) (stripe_text n) _ first then)

module _ {E : Type 0} (sight : E → Sight) (faults : E → ℕ) (l : Layout) (set first : ℕ) where
  -- the first n stripes are put, and their bytes and no others were read
  pub record IsSent (n : ℕ) (old now : List (Option E)) (before after : Option Held) (count_before count_after : ℕ) : Type 0 where
    pub took : Took sight faults (λ d. n * (count_below (stripe_symbols l) (is_read_of l set d) * l.symbol_bytes)) old now
    pub put : (devices : ℕ → List ℕ) → Tells sight devices old → Takes before after (sent l (gathered l devices set first) n)
    pub quiet : count_after ≡ count_before

  pub sent-start : (n : ℕ) (slots : List (Option E)) (before after : Option Held) (x y : ℕ) → n ≡ 0 → Takes before after (head_bytes l) → y ≡ x
      → IsSent n slots slots before after x y
  sent-start n slots before after x y e h quiet = record {
    took = took-same sight faults (λ d. 0) _ slots slots (λ d. sym (ap (λ k. k * (count_below (stripe_symbols l) (is_read_of l set d) * l.symbol_bytes)) e ∙ zero-mul (count_below (stripe_symbols l) (is_read_of l set d) * l.symbol_bytes))) (took-none sight faults slots);
    put = λ devices told. sent-none l (gathered l devices set first) before after n e h;
    quiet = quiet;
  }

  pub sent-turn : (n : ℕ) (old now next : List (Option E)) (a b c : Option Held) (x y z : ℕ) → IsSent n old now a b x y
      → Took sight faults (λ d. count_below (stripe_symbols l) (is_read_of l set d) * l.symbol_bytes) now next
      → ((devices : ℕ → List ℕ) → Tells sight devices now → Takes b c (stripe_text l (gathered l devices set first) n))
      → z ≡ y → IsSent (n + 1) old next a c x z
  sent-turn n old now next a b c x y z h took put quiet = record {
    took = took-same sight faults (λ d. n * (count_below (stripe_symbols l) (is_read_of l set d) * l.symbol_bytes) + count_below (stripe_symbols l) (is_read_of l set d) * l.symbol_bytes)
        (λ d. (n + 1) * (count_below (stripe_symbols l) (is_read_of l set d) * l.symbol_bytes)) old next
        (λ d. omega (arith, add-mul n 1 (count_below (stripe_symbols l) (is_read_of l set d) * l.symbol_bytes)))
        (took-more sight faults _ _ old now next h.took took);
    put = λ devices told. sent-more l (gathered l devices set first) a b c n (h.put devices told) (put devices (tells-kept sight faults devices _ old now h.took told));
    quiet = quiet ∙ h.quiet;
  }
