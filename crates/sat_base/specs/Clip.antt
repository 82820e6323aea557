-- Clips over whole numbers (ITU-T G.191, Software Tool Library manual, basic operators).
use Rattle.std.specs.Prelude.{ℤ, pos, negsuc}
use Rattle.std.specs.Int.{w16, int_min, int_max, int_wrap}

-- the number nearest to x from the first bound to the second
abbrev pub clip : ℤ → ℤ → ℤ → ℤ
clip low high x = int_max low (int_min x high)

-- bounded to -32768 to 32767
abbrev pub clip16 : ℤ → ℤ
clip16 x = clip (negsuc 32767) (pos 32767) x

-- bounded to -2147483648 to 2147483647
abbrev pub clip32 : ℤ → ℤ
clip32 x = clip (negsuc 2147483647) (pos 2147483647) x

-- the number from -32768 to 32767 that is equal to x modulo 65536
abbrev pub low16 : ℤ → ℤ
low16 x = int_wrap w16 x
