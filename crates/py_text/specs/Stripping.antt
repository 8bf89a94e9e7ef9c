-- `lstrip`, `rstrip` and `strip` among the string methods of the Python library reference.
use Rattle.std.specs.Prelude.{ℕ, ◌-◌, List, length, take, drop, chars, encode_utf8_all}
use Rattle.std.specs.List.{prefix_len, suffix_len}
use Rattle.py_text.specs.White.{is_white}

-- characters without the white space in front, and without that at the end
abbrev pub without_white_front : List ℕ → List ℕ
without_white_front cs = drop (prefix_len is_white cs) cs

abbrev pub without_white_end : List ℕ → List ℕ
without_white_end cs = take (length cs - suffix_len is_white cs) cs

abbrev pub lstrip : List ℕ → List ℕ
lstrip text = encode_utf8_all (without_white_front (chars text))

abbrev pub rstrip : List ℕ → List ℕ
rstrip text = encode_utf8_all (without_white_end (chars text))

abbrev pub strip : List ℕ → List ℕ
strip text = encode_utf8_all (without_white_end (without_white_front (chars text)))
