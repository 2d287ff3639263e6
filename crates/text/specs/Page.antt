-- A page, read as the buffer that it lends and the place of the next byte.
use Rattle.std.specs.Prelude.{◌≡◌}
use Rattle.text.specs.Buffer.{Buffer, buffer}
use Rattle.text.specs.declared.Page.{Page}

abbrev pub on_page : Page → Buffer
on_page p = buffer p.bytes.now p.at

-- the later page lends the buffer that the earlier one lends: the same place of memory, and the same loan
abbrev pub LendsSame : Page → Page → Type 0
LendsSame earlier later = (later.bytes.ref_ptr ≡ earlier.bytes.ref_ptr) × (later.bytes.ghost_name ≡ earlier.bytes.ghost_name)
