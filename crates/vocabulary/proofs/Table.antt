-- How the table of the code is read. Assumes nothing.
use Rattle.std.proofs.Common.{◌≡◌, ℕ, List, map, get_or, sym, Bor}
use Rattle.std.proofs.Math.ListN.{get_or-map}

-- what the k-th reference of a list points to is the k-th of what they point to
pub now_at : (ws : List (Bor (List ℕ))) (k : ℕ) (d : Bor (List ℕ)) → (get_or ws k d).now ≡ get_or (map (λ (x : Bor (List ℕ)). x.now) ws) k d.now
now_at ws k d = sym (get_or-map (λ (x : Bor (List ℕ)). x.now) ws k d)
