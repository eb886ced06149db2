-- The bytes of a window, after a read behind them or a step of their start.
use Rattle.std.proofs.Common.{◌≡◌, ◌∙◌, ℕ, ◌+◌, ◌-◌, ◌≤◌, List, ◌++◌, length, take, drop, take-add, sym, ap, arith, length-append}
use Rattle.std.proofs.lemmas.List.{take_at, drop_at, take-append-le, drop-take, drop-drop, length-take-le, length-drop}
use Rattle.byte_streams.specs.Window.{between}

-- behind the first bytes of a window others were read
pub behind : (bytes room rest : List ℕ) (end n : ℕ) → end ≤ length bytes → n ≤ length room → between (take end bytes ++ (room ++ rest)) 0 (end + n) ≡ take end bytes ++ take n room
behind bytes room rest end n inside bound =
    let front = take end bytes in
    let long : length front ≡ end = length-take-le end bytes inside in
    let all = front ++ (room ++ rest) in
    ap (λ k. take k all) (omega arith) ∙ take-add end n all
    ∙ ap (λ (xs : List ℕ). xs ++ take n (drop end all)) (take_at front (room ++ rest) end long)
    ∙ ap (λ (xs : List ℕ). front ++ take n xs) (drop_at front (room ++ rest) end long)
    ∙ ap (λ (xs : List ℕ). front ++ xs) (take-append-le n room rest bound)

-- the first of them are passed
pub passed : (bytes : List ℕ) (start end count : ℕ) → start + count ≤ end → between bytes (start + count) end ≡ drop count (between bytes start end)
passed bytes start end count inside =
    let parts : end - start ≡ count + (end - (start + count)) = omega arith in
    ap (take (end - (start + count))) (sym (drop-drop count start bytes))
    ∙ sym (ap (λ k. drop count (take k (drop start bytes))) parts ∙ drop-take count (end - (start + count)) (drop start bytes))

-- the window has its size when what was read is put back into it
pub refilled : (bytes room : List ℕ) (end : ℕ) → end ≤ length bytes → length room ≡ length bytes - end
    → length (take end bytes ++ (room ++ drop (length bytes - end) (drop end bytes))) ≡ length bytes
refilled bytes room end inside long =
    let a = length-take-le end bytes inside in
    let b = length-drop end bytes in
    let c = length-drop (length bytes - end) (drop end bytes) in
    let d = length-append (take end bytes) (room ++ drop (length bytes - end) (drop end bytes)) in
    let e = length-append room (drop (length bytes - end) (drop end bytes)) in
    omega (arith, a, b, c, d, e, long, inside)
