use Rattle.orc_wire.specs.CanonicalKinds.{says_kept}
use Rattle.orc_wire.proofs.KeptLaws.{kept_or_not}
use Rattle.orc_wire.proofs.WholeLaws.{encoding_whole, footer_whole, footer_kept, column_whole, directory_whole, entry_whole, integer_shown, string_shown, bucket_shown, date_shown, binary_shown, collection_shown, column_shown, integer_whole, string_whole, bucket_whole, date_whole, binary_whole, collection_whole, stripes_whole, metadata_whole, index_whole}
use Rattle.orc_wire.proofs.laws.whole_laws.Goals as goal
use Rattle.orc_wire.specs.EncodingKinds.{is_dictionary}

pub returns-clause-encoding : goal.returns-clause-encoding
returns-clause-encoding c = λ m h. encoding_whole (is_dictionary m.kind) m h

pub returns-clause-type_read : goal.returns-clause-type_read
returns-clause-type_read c = λ base bytes m is. says_kept 4 base is.fields bytes m.kept is.are is.says.1.1.1

pub returns-clause-footer_of_kept : goal.returns-clause-footer_of_kept
returns-clause-footer_of_kept c = footer_whole

pub returns-clause-footer_read : goal.returns-clause-footer_read
returns-clause-footer_read c = footer_kept

pub returns-clause-kept_or_not : goal.returns-clause-kept_or_not
returns-clause-kept_or_not c = kept_or_not

pub returns-clause-column : goal.returns-clause-column
returns-clause-column c = column_whole

pub returns-clause-integer_shown : goal.returns-clause-integer_shown
returns-clause-integer_shown c = integer_shown

pub returns-clause-string_shown : goal.returns-clause-string_shown
returns-clause-string_shown c = string_shown

pub returns-clause-bucket_shown : goal.returns-clause-bucket_shown
returns-clause-bucket_shown c = bucket_shown

pub returns-clause-date_shown : goal.returns-clause-date_shown
returns-clause-date_shown c = date_shown

pub returns-clause-binary_shown : goal.returns-clause-binary_shown
returns-clause-binary_shown c = binary_shown

pub returns-clause-column_shown : goal.returns-clause-column_shown
returns-clause-column_shown c = column_shown

pub returns-clause-directory : goal.returns-clause-directory
returns-clause-directory c = directory_whole

pub returns-clause-entry : goal.returns-clause-entry
returns-clause-entry c = entry_whole

pub returns-clause-integers : goal.returns-clause-integers
returns-clause-integers c = integer_whole

pub returns-clause-strings : goal.returns-clause-strings
returns-clause-strings c = string_whole

pub returns-clause-buckets : goal.returns-clause-buckets
returns-clause-buckets c = bucket_whole

pub returns-clause-dates : goal.returns-clause-dates
returns-clause-dates c = date_whole

pub returns-clause-binaries : goal.returns-clause-binaries
returns-clause-binaries c = binary_whole

pub returns-clause-collections : goal.returns-clause-collections
returns-clause-collections c = collection_whole

pub returns-clause-collection_shown : goal.returns-clause-collection_shown
returns-clause-collection_shown c = collection_shown

pub returns-clause-stripes : goal.returns-clause-stripes
returns-clause-stripes c = stripes_whole

pub returns-clause-metadata : goal.returns-clause-metadata
returns-clause-metadata c = metadata_whole

pub returns-clause-index : goal.returns-clause-index
returns-clause-index c = index_whole
