mod Forms
mod Readable
mod Found
