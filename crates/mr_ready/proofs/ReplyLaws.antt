-- The lines of replies.
use Rattle.std.proofs.Common.{◌≡◌, ℕ, List, [], ◌∷◌, ◌++◌, map, flat_map, drop, refl, ◌∙◌, ap}
use Rattle.std.specs.Prelude.{All}
use Rattle.std.proofs.lemmas.List.Elements.{All-head, All-tail}
use Rattle.mr_mend.specs.Replies.{Reply, replies_in, reply_line}
use Rattle.mr_mend.specs.declared.asks.Ask.{Ask}
use Rattle.mr_ready.specs.Reports.{lines_of}

-- the replies in a buffer are to the asks, in their order
pub asks-in : (size : ℕ) (asks : List Ask) (bytes : List ℕ) → map (λ (reply : Reply). reply.ask) (replies_in size asks bytes) ≡ asks
unfolding replies_in
asks-in size [] bytes = refl
asks-in size (ask ∷ asks) bytes = ap (λ more. ask ∷ more) (asks-in size asks (drop size bytes))

-- Where the reply to each ask is fixed, so are the lines.
pub lines-are : (f : Ask → List ℕ) (asks : List Ask) (replies : List Reply) → map (λ (reply : Reply). reply.ask) replies ≡ asks
    → All (λ (reply : Reply). reply.bytes ≡ f reply.ask) replies
    → lines_of replies ≡ flat_map (λ ask. reply_line ask (f ask)) asks
lines-are f asks replies e h = lines-same f replies h ∙ ap (flat_map (λ ask. reply_line ask (f ask))) e where
  lines-same : (f : Ask → List ℕ) (replies : List Reply) → All (λ (reply : Reply). reply.bytes ≡ f reply.ask) replies
      → lines_of replies ≡ flat_map (λ ask. reply_line ask (f ask)) (map (λ (reply : Reply). reply.ask) replies)
  lines-same f [] h = refl
  lines-same f (reply ∷ replies) h =
      ap (λ bytes. reply_line reply.ask bytes ++ lines_of replies) (All-head (λ (reply : Reply). reply.bytes ≡ f reply.ask) reply replies h)
      ∙ ap (λ more. reply_line reply.ask (f reply.ask) ++ more) (lines-same f replies (All-tail (λ (reply : Reply). reply.bytes ≡ f reply.ask) reply replies h))
