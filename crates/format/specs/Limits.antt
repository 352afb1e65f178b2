-- The limits, each with one home.
use Rattle.std.specs.Prelude.{ℕ}

-- "file 65,536 bytes"
abbrev pub file_bytes : ℕ
file_bytes = 65536

-- what a length of two bytes can say: the contents of a tagged field of a request
abbrev pub contents_bytes : ℕ
contents_bytes = 65535

-- "a field's own name 64 (a listed name may be longer); value 4,096; 256 fields a record"
abbrev pub name_bytes : ℕ
name_bytes = 64

abbrev pub value_bytes : ℕ
value_bytes = 4096

abbrev pub record_fields : ℕ
record_fields = 256

-- "64 descriptors; per descriptor 32 typedefs, 32 `%type` fields, and 64 words each in all mandatory, prohibit, allowed and unique fields";
-- document 02 has as many for singular and for auto fields
abbrev pub descriptors : ℕ
descriptors = 64

abbrev pub typedefs : ℕ
typedefs = 32

abbrev pub type_fields : ℕ
type_fields = 32

abbrev pub list_words : ℕ
list_words = 64

-- "up to 64 edits" in a run of requests
abbrev pub run_requests : ℕ
run_requests = 64
