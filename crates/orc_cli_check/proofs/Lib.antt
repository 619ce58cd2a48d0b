mod CheckedFile
