-- Which calls of a store or a sink in memory fail, and what each call leaves.
use Rattle.std.specs.Prelude.{◌≢◌, ℕ, ◌+◌, ◌-◌, ◌^◌, ◌==◌, nat_lt, min, List, ◌++◌, take, count_by, Option, Some, None, Result, Ok, Err, if◌then◌else◌, refl}
use Rattle.std.specs.Option.{option_map}
use Rattle.std.specs.List.{AllPairs, find}
use Rattle.std.specs.Coded.{Coded, code_by, coded×, coded_list, coded_ℕ}
use Rattle.std.specs.FinMap as map
use Rattle.store_io.specs.Outside.{Files}
use Rattle.store_io.specs.declared.failing.Failing.{Failing}
use Rattle.store_io.specs.declared.store.ReadFail.{ReadFail}
use Rattle.store_io.specs.declared.store.ReadFail.TheVariants as read
use Rattle.store_io.specs.declared.store.WriteFail.{WriteFail}
use Rattle.store_io.specs.declared.store.WriteFail.TheVariants as write
use Rattle.store_io.specs.declared.sink.PutFail.{PutFail}
use Rattle.store_io.specs.declared.sink.PutFail.TheVariants as put

-- ---- the calls that fail

-- no call is listed twice
abbrev pub CallsDiffer : List Failing → Type 0
CallsDiffer failing = AllPairs (λ one later. one.call ≢ later.call) failing

-- how many bytes the call of this number takes, where it is listed
abbrev pub failing_at : List Failing → ℕ → Option ℕ
failing_at failing call = option_map (λ one. one.taken) (find (λ one. one.call == call) failing)

-- the same, but at the number where the count stands still no call fails
abbrev pub fails_now : List Failing → ℕ → Option ℕ
fails_now failing call = (if nat_lt call (2 ^ 64 - 1) then failing_at failing call else None)

-- the number of the call after this one
abbrev pub next_call : ℕ → ℕ
next_call call = min (call + 1) (2 ^ 64 - 1)

-- how many listed calls were made before the one of this number
abbrev pub failed_before : List Failing → ℕ → ℕ
failed_before failing call = count_by (λ one. nat_lt one.call call) failing

-- the bytes that a call takes: those before it fails, or all
abbrev pub taken_of : Option ℕ → List ℕ → List ℕ
taken_of None bytes = bytes
taken_of (Some taken) bytes = take taken bytes

abbrev pub failing_code : Coded Failing
failing_code = code_by (ℕ × ℕ) (coded× coded_ℕ coded_ℕ) (λ one. (one.call, one.taken)) (λ pair. record { call = pair.0; taken = pair.1 }) (λ _. refl)

-- ---- a store

-- a store in memory: its files, the calls that fail, and the number of the next call
pub record MemFiles : Type 0 where
  pub files : Files
  pub failing : List Failing
  pub call : ℕ

-- the store after a call that leaves the files as they are
abbrev pub after_call : MemFiles → MemFiles
after_call store = record { files = store.files; failing = store.failing; call = next_call store.call }

-- the store after a write, which takes a part of the bytes where it fails
abbrev pub after_write : MemFiles → List ℕ → List ℕ → MemFiles
after_write store name bytes =
    record {
      files = map.insert store.files name (taken_of (fails_now store.failing store.call) bytes);
      failing = store.failing;
      call = next_call store.call;
    }

-- the answer of a read, by whether the call fails and what file there is, where there is memory
abbrev pub read_answer : Option ℕ → Option (List ℕ) → ℕ → Result (List ℕ) ReadFail
read_answer (Some taken) file most = Err read.Failed
read_answer None None most = Err read.Missing
read_answer None (Some bytes) most = Ok (take (most + 1) bytes)

-- the same of this store's next call
abbrev pub read_of : MemFiles → List ℕ → ℕ → Result (List ℕ) ReadFail
read_of store name most = read_answer (fails_now store.failing store.call) (map.get store.files name) most

-- the answer of a write, by whether the call fails, where there is memory
abbrev pub write_answer : Option ℕ → Result (Unit {0}) WriteFail
write_answer None = Ok tt
write_answer (Some taken) = Err write.Failed

abbrev pub mem_files_code : Coded MemFiles
mem_files_code =
    code_by
    (Files × (List Failing × ℕ))
    (coded× (map.code (coded_list coded_ℕ) (coded_list coded_ℕ)) (coded× (coded_list failing_code) coded_ℕ))
    (λ store. (store.files, (store.failing, store.call)))
    (λ parts. record { files = parts.0; failing = parts.1.0; call = parts.1.1 })
    (λ _. refl)

-- ---- a sink

-- a sink in memory: what was written, the calls that fail, and the number of the next call
pub record MemText : Type 0 where
  pub written : List ℕ
  pub failing : List Failing
  pub call : ℕ

-- the sink after a call that writes nothing
abbrev pub after_no_put : MemText → MemText
after_no_put sink = record { written = sink.written; failing = sink.failing; call = next_call sink.call }

-- the sink after a put, which takes a part of the bytes where it fails
abbrev pub after_put : MemText → List ℕ → MemText
after_put sink bytes =
    record {
      written = sink.written ++ taken_of (fails_now sink.failing sink.call) bytes;
      failing = sink.failing;
      call = next_call sink.call;
    }

-- the answer of a put, by whether the call fails, where there is memory
abbrev pub put_answer : Option ℕ → Result (Unit {0}) PutFail
put_answer None = Ok tt
put_answer (Some taken) = Err put.Failed

abbrev pub mem_text_code : Coded MemText
mem_text_code =
    code_by
    (List ℕ × (List Failing × ℕ))
    (coded× (coded_list coded_ℕ) (coded× (coded_list failing_code) coded_ℕ))
    (λ sink. (sink.written, (sink.failing, sink.call)))
    (λ parts. record { written = parts.0; failing = parts.1.0; call = parts.1.1 })
    (λ _. refl)
