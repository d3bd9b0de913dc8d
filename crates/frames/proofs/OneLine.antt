-- A line means one frame, and a frame has one line: `one_line`.
use Rattle.std.specs.Prelude.{None, Option, Some}
use mathlib.Core.Path.{◌≡◌, refl, sym, ap, subst, ◌∙◌}
use mathlib.Core.Bool.{Bool, true, false, cond, ◌&&◌}
use mathlib.Core.List.{List, [], ◌∷◌, ◌++◌, append-nil}
use mathlib.Core.Logic.{◌⊎◌, inl, inr}
use Prim.Native.Nat.{ℕ, suc, ◌+◌, ◌*◌, ◌<◌}
use native.Mathlib.Omega.{arith}
use lib.ListN.{length, drop, length-append}
use lib.Dec.{eqb}
use borrow.Author.Tests.{eqb-true, eq-eqb}
use Rattle.tables.specs.Checks.{checked}
use Rattle.hexdigits.specs.Hex.{all_digits, byte_at, number_at, bytes_at, hex, bytes_of}
use Rattle.hexdigits.proofs.Digits.{both}
use Rattle.hexdigits.proofs.Bytes.{byte_lt, number_lt, length_bytes}
use Rattle.hexdigits.proofs.Writing.{
  one_byte,
  bytes_append,
  bytes_of_lem,
  bytes_at_lem,
  length_hex,
  digits_hex,
  byte_hex,
  bytes_hex,
  length_bytes_of,
  number_hex,
  past,
  after,
  bytes_of_number,
  hex_of_bytes,
  bytes_split,
}
use Rattle.state.specs.declared.Role.TheVariants.{Master, Replica}
use Rattle.state.specs.declared.Verdict.TheVariants as verdict
use Rattle.state.specs.declared.Echo.TheVariants.{Ping, Pong}
use Rattle.frames.specs.Frames.{rows, kind_of, layout_of, digits_of, header_of, framed, frame_of, bitmap_of}
use Rattle.frames.specs.Lines.{kind_bytes, rest_bytes, encode, Bytes, Number, RestFits, Fits, OneLine}
use Rattle.frames.specs.declared.Header.{Header}
use Rattle.frames.specs.declared.Kind.{Kind}
use Rattle.frames.specs.declared.Kind.TheVariants.{Heartbeat, Report, Fail, Request, Ack, Probe, Tick}
use Rattle.frames.specs.declared.Layout.{Layout}
use Rattle.frames.specs.declared.Layout.TheVariants.{Short, Middle, Long}
use Rattle.frames.specs.declared.Frame.{Frame}

-- ---- the first four bytes

-- those of a kind name it
Named : List ℕ → Kind → Type 0
Named bs q = (k : ℕ) × (x : ℕ) × (y : ℕ) × (z : ℕ) × (bs ≡ k ∷ x ∷ y ∷ z ∷ []) × (kind_of k x y z ≡ Some q)

unfoldable named : (q : Kind) → Named (kind_bytes q) q
unfolding Named
named (Heartbeat x Master) = (1, x, 0, 0, refl, refl)
named (Heartbeat x (Replica z)) = (1, x, 1, z, refl, refl)
named (Report x y verdict.Fine) = (2, x, y, 0, refl, refl)
named (Report x y verdict.Pfail) = (2, x, y, 1, refl, refl)
named (Report x y verdict.Fail) = (2, x, y, 2, refl, refl)
named (Fail x y) = (3, x, y, 0, refl, refl)
named (Request x) = (4, x, 0, 0, refl, refl)
named (Ack x y) = (5, x, y, 0, refl, refl)
named (Probe x Ping) = (6, x, 0, 0, refl, refl)
named (Probe x Pong) = (6, x, 1, 0, refl, refl)
named Tick = (7, 0, 0, 0, refl, refl)

-- a row at a time: what holds of each row's kind, and of none, holds of the one met
abbrev Each : (Option Kind → Type 0) → List (Bool × Kind) → Type 0
Each P [] = Unit {0}
Each P (row ∷ rest) = (row.0 ≡ true → P (Some row.1)) × Each P rest

pick : (P : Option Kind → Type 0) (t : Bool) (a b : Option Kind) → (t ≡ true → P a) → P b → P (cond t a b)
pick P true a b f g = f refl
pick P false a b f g = g

row_by_row : (P : Option Kind → Type 0) → P None → (rows : List (Bool × Kind)) → Each P rows → P (checked Some rows None)
row_by_row P h [] e = h
row_by_row P h (row ∷ rest) e = pick P row.0 (Some row.1) (checked Some rest None) e.0 (row_by_row P h rest e.1)

module _ (k x y z : ℕ) where
  -- what is listed has these four bytes
  Spelled : Option Kind → Type 0
  Spelled None = Unit
  Spelled (Some q) = kind_bytes q ≡ k ∷ x ∷ y ∷ z ∷ []

  -- what a row's test says
  one : (a v : ℕ) (t : Bool) → (t && eqb a v) ≡ true → (t ≡ true) × (a ≡ v)
  one a v t e = let f = both t (eqb a v) e in (f.0, eqb-true a v f.1)

  every_row : Each Spelled (rows k x y z)
  unfolding Spelled
  every_row = (λ e. let a = one z 0 (eqb k 1 && eqb y 0) e in let b = one y 0 (eqb k 1) a.0 in rw (a.1, b.1, eqb-true k 1 b.0), (λ e. let a = one y 1 (eqb k 1) e in rw (a.1, eqb-true k 1 a.0), (λ e. let a = one z 0 (eqb k 2) e in rw (a.1, eqb-true k 2 a.0), (λ e. let a = one z 1 (eqb k 2) e in rw (a.1, eqb-true k 2 a.0), (λ e. let a = one z 2 (eqb k 2) e in rw (a.1, eqb-true k 2 a.0), (λ e. let a = one z 0 (eqb k 3) e in rw (a.1, eqb-true k 3 a.0), (λ e. let a = one z 0 (eqb k 4 && eqb y 0) e in let b = one y 0 (eqb k 4) a.0 in rw (a.1, b.1, eqb-true k 4 b.0), (λ e. let a = one z 0 (eqb k 5) e in rw (a.1, eqb-true k 5 a.0), (λ e. let a = one z 0 (eqb k 6 && eqb y 0) e in let b = one y 0 (eqb k 6) a.0 in rw (a.1, b.1, eqb-true k 6 b.0), (λ e. let a = one z 0 (eqb k 6 && eqb y 1) e in let b = one y 1 (eqb k 6) a.0 in rw (a.1, b.1, eqb-true k 6 b.0), (λ e. let a = one z 0 (eqb k 7 && eqb x 0 && eqb y 0) e in let b = one y 0 (eqb k 7 && eqb x 0) a.0 in let d = one x 0 (eqb k 7) b.0 in rw (a.1, b.1, d.1, eqb-true k 7 d.0), tt)))))))))))

  spelled : (q : Kind) → kind_of k x y z ≡ Some q → kind_bytes q ≡ k ∷ x ∷ y ∷ z ∷ []
  unfolding Spelled
  spelled q e = subst Spelled e (row_by_row Spelled tt (rows k x y z) every_row)

-- ---- a frame's line

-- what a line begins with
record Head (l : List ℕ) (digits k x y z : ℕ) : Type 0 where
  hexadecimal : all_digits l ≡ true
  size : length l ≡ digits
  kind : byte_at l 0 ≡ k
  first : byte_at l 1 ≡ x
  second : byte_at l 2 ≡ y
  third : byte_at l 3 ≡ z

four : (k x y z : ℕ) (rest : List ℕ) → k < 256 → x < 256 → y < 256 → z < 256 → Bytes rest → Bytes (k ∷ x ∷ y ∷ z ∷ rest)
four k x y z rest hk hx hy hz h =
    one_byte k (x ∷ y ∷ z ∷ rest) hk (one_byte x (y ∷ z ∷ rest) hx (one_byte y (z ∷ rest) hy (one_byte z rest hz h)))

head : (k x y z : ℕ) (rest : List ℕ) → Bytes (k ∷ x ∷ y ∷ z ∷ rest) → (n : ℕ) → 2 * suc (suc (suc (suc (length rest)))) ≡ n → Head (hex (k ∷ x ∷ y ∷ z ∷ rest)) n k x y z
head k x y z rest all n e =
    let bs = k ∷ x ∷ y ∷ z ∷ rest in
    record {
      hexadecimal = digits_hex bs all;
      size = length_hex bs ∙ e;
      kind = byte_hex bs all 0;
      first = byte_hex bs all 1;
      second = byte_hex bs all 2;
      third = byte_hex bs all 3;
    }

-- the lines of 24, 40 and 4,152 digits: their heads, numbers and bitmap
abbrev short : ℕ → ℕ → ℕ → ℕ → ℕ → List ℕ
short k x y z t = k ∷ x ∷ y ∷ z ∷ bytes_of 8 t

abbrev middle : ℕ → ℕ → ℕ → ℕ → ℕ → ℕ → List ℕ
middle k x y z a t = k ∷ x ∷ y ∷ z ∷ (bytes_of 8 a ++ bytes_of 8 t)

abbrev long : ℕ → ℕ → ℕ → ℕ → ℕ → ℕ → ℕ → List ℕ → List ℕ
long k x y z a b t m = k ∷ x ∷ y ∷ z ∷ (bytes_of 8 a ++ (bytes_of 8 b ++ (bytes_of 8 t ++ m)))

module _ (k x y z t : ℕ) (hk : k < 256) (hx : x < 256) (hy : y < 256) (hz : z < 256) (ht : Number t) where
  short_bytes : Bytes (short k x y z t)
  short_bytes = four k x y z (bytes_of 8 t) hk hx hy hz (bytes_of_lem 8 t)

  short_head : Head (hex (short k x y z t)) 24 k x y z
  short_head = head k x y z (bytes_of 8 t) short_bytes 24 (omega (arith, length_bytes_of 8 t))

  short_time : number_at (hex (short k x y z t)) 4 8 ≡ t
  short_time = number_hex (short k x y z t) [] 4 8 t short_bytes ht (sym (append-nil (bytes_of 8 t)))

module _ (k x y z a t : ℕ) (hk : k < 256) (hx : x < 256) (hy : y < 256) (hz : z < 256) (ha : Number a) (ht : Number t) where
  middle_bytes : Bytes (middle k x y z a t)
  middle_bytes = four k x y z (bytes_of 8 a ++ bytes_of 8 t) hk hx hy hz (bytes_append (bytes_of 8 a) (bytes_of 8 t) (bytes_of_lem 8 a) (bytes_of_lem 8 t))

  middle_head : Head (hex (middle k x y z a t)) 40 k x y z
  middle_head =
      head k x y z (bytes_of 8 a ++ bytes_of 8 t) middle_bytes 40
      (omega (arith, length-append (bytes_of 8 a) (bytes_of 8 t), length_bytes_of 8 a, length_bytes_of 8 t))

  middle_epoch : number_at (hex (middle k x y z a t)) 4 8 ≡ a
  middle_epoch = number_hex (middle k x y z a t) (bytes_of 8 t) 4 8 a middle_bytes ha refl

  middle_time : number_at (hex (middle k x y z a t)) 12 8 ≡ t
  middle_time = number_hex (middle k x y z a t) [] 12 8 t middle_bytes ht (after 8 a (bytes_of 8 t) ∙ sym (append-nil (bytes_of 8 t)))

module _ (k x y z a b t : ℕ) (m : List ℕ) (hk : k < 256) (hx : x < 256) (hy : y < 256) (hz : z < 256) (ha : Number a) (hb : Number b) (ht : Number t) (hm : (length m ≡ 2048) × Bytes m) where
  long_bytes : Bytes (long k x y z a b t m)
  long_bytes =
      four k x y z (bytes_of 8 a ++ (bytes_of 8 b ++ (bytes_of 8 t ++ m))) hk hx hy hz
      (bytes_append (bytes_of 8 a) (bytes_of 8 b ++ (bytes_of 8 t ++ m)) (bytes_of_lem 8 a)
      (bytes_append (bytes_of 8 b) (bytes_of 8 t ++ m) (bytes_of_lem 8 b) (bytes_append (bytes_of 8 t) m (bytes_of_lem 8 t) hm.1)))

  long_head : Head (hex (long k x y z a b t m)) 4152 k x y z
  long_head =
      head k x y z (bytes_of 8 a ++ (bytes_of 8 b ++ (bytes_of 8 t ++ m))) long_bytes 4152
      (omega (
        arith,
        length-append (bytes_of 8 a) (bytes_of 8 b ++ (bytes_of 8 t ++ m)),
        length-append (bytes_of 8 b) (bytes_of 8 t ++ m),
        length-append (bytes_of 8 t) m,
        length_bytes_of 8 a,
        length_bytes_of 8 b,
        length_bytes_of 8 t,
        hm.0,
      ))

  long_current : number_at (hex (long k x y z a b t m)) 4 8 ≡ a
  long_current = number_hex (long k x y z a b t m) (bytes_of 8 b ++ (bytes_of 8 t ++ m)) 4 8 a long_bytes ha refl

  long_config : number_at (hex (long k x y z a b t m)) 12 8 ≡ b
  long_config = number_hex (long k x y z a b t m) (bytes_of 8 t ++ m) 12 8 b long_bytes hb (after 8 a (bytes_of 8 b ++ (bytes_of 8 t ++ m)))

  long_time : number_at (hex (long k x y z a b t m)) 20 8 ≡ t
  long_time =
      number_hex (long k x y z a b t m) m 20 8 t long_bytes ht
      (past 8 a 8 (bytes_of 8 b ++ (bytes_of 8 t ++ m)) ∙ after 8 b (bytes_of 8 t ++ m))

  long_bitmap : bitmap_of (hex (long k x y z a b t m)) ≡ m
  unfolding bitmap_of
  long_bitmap =
      let e : drop 28 (long k x y z a b t m) ≡ m = past 8 a 16 (bytes_of 8 b ++ (bytes_of 8 t ++ m)) ∙ past 8 b 8 (bytes_of 8 t ++ m) ∙ after 8 t m in
      bytes_hex (long k x y z a b t m) long_bytes 28 2048 (ap length e ∙ hm.0) ∙ e

-- a line of each length is what its bytes and numbers spell
first_four : (l rest : List ℕ) → bytes_at l 0 4 ++ rest ≡ byte_at l 0 ∷ byte_at l 1 ∷ byte_at l 2 ∷ byte_at l 3 ∷ rest
unfolding bytes_at
first_four l rest = refl

module _ (l : List ℕ) (d : all_digits l ≡ true) where
  short_back : length l ≡ 24 → hex (short (byte_at l 0) (byte_at l 1) (byte_at l 2) (byte_at l 3) (number_at l 4 8)) ≡ l
  unfolding bytes_at
  short_back n = rw (bytes_of_number l 4 8) (hex_of_bytes l d 12 0 n)

  middle_back : length l ≡ 40 → hex (middle (byte_at l 0) (byte_at l 1) (byte_at l 2) (byte_at l 3) (number_at l 4 8) (number_at l 12 8)) ≡ l
  unfolding bytes_at
  middle_back n = rw (bytes_of_number l 4 8, bytes_of_number l 12 8) (hex_of_bytes l d 20 0 n)

  long_back : (n : ℕ) → length l ≡ 2 * (28 + n) → hex (long (byte_at l 0) (byte_at l 1) (byte_at l 2) (byte_at l 3) (number_at l 4 8) (number_at l 12 8) (number_at l 20 8) (bytes_at l 28 n)) ≡ l
  long_back n e =
      let q : 28 + n ≡ 4 + (8 + (8 + (8 + n))) = omega arith in
      let size : length l ≡ 2 * (0 + (4 + (8 + (8 + (8 + n))))) = omega arith in
      let s : bytes_at l 0 (4 + (8 + (8 + (8 + n)))) ≡ bytes_at l 0 4 ++ (bytes_at l 4 8 ++ (bytes_at l 12 8 ++ (bytes_at l 20 8 ++ bytes_at l 28 n))) =
      bytes_split l 0 4 (8 + (8 + (8 + n)))
      ∙ ap (λ (r : List ℕ). bytes_at l 0 4 ++ r)
      (bytes_split l 4 8 (8 + (8 + n))
      ∙ ap (λ (r : List ℕ). bytes_at l 4 8 ++ r) (bytes_split l 12 8 (8 + n) ∙ ap (λ (r : List ℕ). bytes_at l 12 8 ++ r) (bytes_split l 20 8 n))) in
      rw (bytes_of_number l 4 8, bytes_of_number l 12 8, bytes_of_number l 20 8)
      (ap hex (sym (s ∙ first_four l (bytes_at l 4 8 ++ (bytes_at l 12 8 ++ (bytes_at l 20 8 ++ bytes_at l 28 n))))) ∙ hex_of_bytes l d (4 + (8 + (8 + (8 + n)))) 0 size)

-- ---- the two tables

same : (h : Header) (t e c : ℕ) → t ≡ h.time → e ≡ h.epoch → c ≡ h.config → record { time = t; epoch = e; config = c } ≡ h
same h t e c p q r = rw (p, q, r)

-- the header of a line whose numbers are written
module _ (k x y z : ℕ) (h : Header) (m : List ℕ) (all : Bytes (k ∷ x ∷ y ∷ z ∷ [])) where
  abbrev line : Layout → List ℕ
  line layout = hex (k ∷ x ∷ y ∷ z ∷ rest_bytes layout h m)

  read : (layout : Layout) → RestFits layout h m → Head (line layout) (digits_of layout) k x y z × (header_of layout (line layout) ≡ h)
  read Short f = (
    short_head k x y z h.time (all 0) (all 1) (all 2) (all 3) f.0,
    same h _ _ _ (short_time k x y z h.time (all 0) (all 1) (all 2) (all 3) f.0) (sym f.1) (sym f.2),
  )
  read Middle f = (
    middle_head k x y z h.epoch h.time (all 0) (all 1) (all 2) (all 3) f.0 f.1,
    same h _ _ _ (middle_time k x y z h.epoch h.time (all 0) (all 1) (all 2) (all 3) f.0 f.1) (middle_epoch k x y z h.epoch h.time (all 0) (all 1) (all 2) (all 3) f.0 f.1) (sym f.2),
  )
  read Long f = (
    long_head k x y z h.epoch h.config h.time m (all 0) (all 1) (all 2) (all 3) f.0 f.1 f.2 (f.3, f.4),
    same h _ _ _ (long_time k x y z h.epoch h.config h.time m (all 0) (all 1) (all 2) (all 3) f.0 f.1 f.2 (f.3, f.4)) (long_current k x y z h.epoch h.config h.time m (all 0) (all 1) (all 2) (all 3) f.0 f.1 f.2 (f.3, f.4))
        (long_config k x y z h.epoch h.config h.time m (all 0) (all 1) (all 2) (all 3) f.0 f.1 f.2 (f.3, f.4)),
  )

read_back : (f : Frame) (m : List ℕ) → Fits f m → frame_of (encode f m) ≡ Some f
unfolding frame_of encode Named
read_back f m fits = go (named f.kind)
  where
    go : Named (kind_bytes f.kind) f.kind → frame_of (encode f m) ≡ Some f
    go (k, x, y, z, e, q) =
        let r = read k x y z f.header m (subst Bytes e fits.0) (layout_of f.kind) fits.1 in
        rw (e, r.0.hexadecimal, r.0.kind, r.0.first, r.0.second, r.0.third, q, eq-eqb _ _ r.0.size, r.1)

bitmap_back : (f : Frame) (m : List ℕ) → Fits f m → layout_of f.kind ≡ Long → bitmap_of (encode f m) ≡ m
unfolding encode Named
bitmap_back f m fits long = go (named f.kind) (subst (λ (l : Layout). RestFits l f.header m) long fits.1)
  where
    go : Named (kind_bytes f.kind) f.kind → RestFits Long f.header m → bitmap_of (encode f m) ≡ m
    go (k, x, y, z, e, q) g =
        let all : Bytes (k ∷ x ∷ y ∷ z ∷ []) = subst Bytes e fits.0 in
        rw (e, long) (long_bitmap k x y z f.header.epoch f.header.config f.header.time m (all 0) (all 1) (all 2) (all 3) g.0 g.1 g.2 (g.3, g.4))

module _ (l : List ℕ) (d : all_digits l ≡ true) where
  -- a line of a layout's length is spelled by its first bytes, its header and its bitmap, which fit
  back : (layout : Layout) → length l ≡ digits_of layout
      → (hex (byte_at l 0 ∷ byte_at l 1 ∷ byte_at l 2 ∷ byte_at l 3 ∷ rest_bytes layout (header_of layout l) (bitmap_of l)) ≡ l) × RestFits layout (header_of layout l) (bitmap_of l)
  unfolding bitmap_of
  back Short n = (short_back l d n, (number_lt l 4 8, refl, refl))
  back Middle n = (middle_back l d n, (number_lt l 4 8, number_lt l 12 8, refl))
  back Long n = (long_back l d 2048 n, (number_lt l 4 8, number_lt l 12 8, number_lt l 20 8, length_bytes l 28 2048, bytes_at_lem l 28 2048))

  first_bytes : Bytes (byte_at l 0 ∷ byte_at l 1 ∷ byte_at l 2 ∷ byte_at l 3 ∷ [])
  first_bytes = four (byte_at l 0) (byte_at l 1) (byte_at l 2) (byte_at l 3) [] (byte_lt l 0) (byte_lt l 1) (byte_lt l 2) (byte_lt l 3) (λ k. omega arith)

  abbrev Back : Option Frame → Type 0
  Back r = (r ≡ None) ⊎ ((f : Frame) × (r ≡ Some f) × Fits f (bitmap_of l) × (encode f (bitmap_of l) ≡ l))

  listed : (q : Kind) → kind_bytes q ≡ byte_at l 0 ∷ byte_at l 1 ∷ byte_at l 2 ∷ byte_at l 3 ∷ [] → Back (framed l (Some q))
  unfolding encode
  listed q e = go (eqb (length l) (digits_of (layout_of q))) refl
    where
      f : Frame
      f = record { header = header_of (layout_of q) l; kind = q }

      go : (t : Bool) → eqb (length l) (digits_of (layout_of q)) ≡ t → Back (cond t (Some f) None)
      go true s =
          let b = back (layout_of q) (eqb-true (length l) (digits_of (layout_of q)) s) in
          inr (f, refl, (subst Bytes (sym e) first_bytes, b.1), rw e b.0)
      go false s = inl refl

  any : (r : Option Kind) → kind_of (byte_at l 0) (byte_at l 1) (byte_at l 2) (byte_at l 3) ≡ r → Back (framed l r)
  any None e = inl refl
  any (Some q) e = listed q (spelled (byte_at l 0) (byte_at l 1) (byte_at l 2) (byte_at l 3) q e)

written_back : (line : List ℕ) → (frame_of line ≡ None) ⊎ ((f : Frame) × (frame_of line ≡ Some f) × Fits f (bitmap_of line) × (encode f (bitmap_of line) ≡ line))
unfolding frame_of
written_back l = go (all_digits l) refl
  where
    go : (t : Bool) → all_digits l ≡ t
        → (cond t (framed l (kind_of (byte_at l 0) (byte_at l 1) (byte_at l 2) (byte_at l 3))) None ≡ None)
        ⊎ ((f : Frame) × (cond t (framed l (kind_of (byte_at l 0) (byte_at l 1) (byte_at l 2) (byte_at l 3))) None ≡ Some f) × Fits f (bitmap_of l) × (encode f (bitmap_of l) ≡ l))
    go true d = any l d (kind_of (byte_at l 0) (byte_at l 1) (byte_at l 2) (byte_at l 3)) refl
    go false d = inl refl

pub one_line : OneLine
one_line = record { read_back = read_back; bitmap_back = bitmap_back; written_back = written_back }
