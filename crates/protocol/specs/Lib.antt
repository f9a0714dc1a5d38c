-- AUTOSAR's Diagnostic Log and Trace protocol by its own names, written from the protocol and not from the Rust: the headers' fields, the message
-- info MSIN, the type info word, and the sets of words on which the crate and the protocol agree or part.
-- AUTOSAR's document itself is not at hand. What libdlt, dlt-viewer or tshark also have is unmarked; what is recalled only is marked [memory].
-- One requirement is certain by its number: the standard header is big-endian, [PRS_Dlt_00091].
pub mod Fields
pub mod Msin
pub mod TypeInfo
pub mod Sets
