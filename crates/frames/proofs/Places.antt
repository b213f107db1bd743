-- Places in a list that has the frames one after another, and which nets a net names.
use Rattle.std.proofs.Common.{◌≡◌, ℕ, zero, suc, ◌+◌, ◌-◌, ◌*◌, ◌/◌, ◌%◌, ◌<◌, ◌≤◌, true, ◌&&◌, ltb, sym, ap, ◌∙◌, suc-mul, arith}
use Rattle.std.proofs.lemmas.Nat.{div-add-mod', div-mul-add, mod-mul-add}
use Rattle.frames.specs.Rules.{frames_in}

-- the frame before frame t
pub row-before : (t w : ℕ) → 0 < t → (t - 1) * w + w ≡ t * w
row-before zero w h = omega arith
row-before (suc t) w h = grind (arith, suc-mul)

-- there is room for frame t
pub row-room : (t frames w : ℕ) → t < frames → t * w + w ≤ frames * w
row-room t frames w h = grind arith

pub place-below : (t n frames w : ℕ) → t < frames → n < w → t * w + n < frames * w
place-below t n frames w h k = grind arith

-- what comes before a frame's end is in no later frame
pub row-within : (w s m t : ℕ) → s * w + m < t * w → s < t
row-within w s m t lt = grind arith

-- a place is one frame's and one net's
pub same-place : (w s m t n : ℕ) → m < w → n < w → s * w + m ≡ t * w + n → (s ≡ t) × (m ≡ n)
same-place w s m t n h k e =
    (sym (div-mul-add s w m h) ∙ ap (λ p. p / w) e ∙ div-mul-add t w n k, sym (mod-mul-add s w m h) ∙ ap (λ p. p % w) e ∙ mod-mul-add t w n k)

pub frames-are : (w places : ℕ) → 0 < w → frames_in w places ≡ places / w
frames-are w places h = grind arith

-- the whole frames have room
pub frames-room : (frames w places : ℕ) → frames ≡ frames_in w places → frames * w ≤ places
frames-room frames w places e = grind (arith, div-add-mod')

pub two-below : (a b n : ℕ) → (ltb a n && ltb b n) ≡ true → (a < n) × (b < n)
two-below a b n h = grind arith
